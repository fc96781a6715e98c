-- The earlier wholes, as the log determines them.
use Rattle.std.specs.Prelude.{◌≡◌, ◌/◌, ◌%◌, ◌<◌, true, List, [], ◌∷◌, ◌++◌, All, length, map, reverse, None, slice_set, slice_index_or}
use Rattle.rv_mem.specs.declared.words.Seen.TheVariants.{Untouched}
use Rattle.rv_mem.specs.Part.{part_at}
use Rattle.rv_mem.specs.Seen.{is_there}
use Rattle.foot_map.specs.Touches.{has}
use Rattle.part_machine.specs.declared.entry.Entry.{Entry}
use Rattle.part_machine.specs.declared.entry.Entry.TheVariants.{Place, Word, Step, Name, Choice, Wish}
use Rattle.part_machine.specs.declared.running.Running.{Running}
use Rattle.part_machine.specs.ButLast.{but_last}
use Rattle.part_machine.specs.Notes.{with_seen, put_back, taken_out, IsKnownAt, IsWithinWord}
use Rattle.part_machine.specs.Whole.{bare, Whole, History}

-- the running machine as a whole
abbrev pub whole_of : Running → Whole
whole_of m = record {
  ram = m.ram;
  first = map bare m.first.items;
  words = m.words.items;
  traces = m.traces.items;
  harts = map bare m.harts.items;
  memory = part_at m.memory;
  feet = has m.feet;
  names = m.names.items;
  choices = m.choices.items;
  dropped = m.dropped.items;
}

-- the whole before the change of an entry
abbrev pub undone : Entry → Whole → Whole
undone (Place k first now) w = record w { first = slice_set w.first k (bare first); harts = slice_set w.harts k (bare now) }
undone (Word addr) w = record w { words = but_last w.words; memory = with_seen (addr / 4) Untouched w.memory }
undone (Step k now notes) w = record w {
  traces = slice_set w.traces k (but_last (slice_index_or w.traces k []));
  harts = slice_set w.harts k (bare now);
  memory = put_back notes w.memory;
  feet = taken_out k notes w.feet;
}
undone (Name name) w = record w { names = slice_set w.names name None }
undone Choice w = record w { choices = but_last w.choices }
undone Wish w = record w { dropped = but_last w.dropped }

-- the entry can be undone
abbrev pub IsWithin : Entry → Whole → Type 0
IsWithin (Place k first now) w = (k < length w.first) × (k < length w.harts)
IsWithin (Word addr) w = (addr % 4 ≡ 0) × (is_there (w.memory (addr / 4)) ≡ true)
IsWithin (Step k now notes) w = (k < length w.traces) × (k < length w.harts) × All (λ x. IsKnownAt w.memory x.addr) notes × All IsWithinWord notes
IsWithin (Name name) w = name < length w.names
IsWithin Choice w = Unit {0}
IsWithin Wish w = Unit {0}

-- the wholes before each of the entries, whose newest comes first
abbrev pub before : List Entry → Whole → List Whole
before [] w = []
before (e ∷ es) w = before es (undone e w) ++ undone e w ∷ []

-- each entry can be undone once those after it are
abbrev pub AreWithin : List Entry → Whole → Type 0
AreWithin [] w = Unit {0}
AreWithin (e ∷ es) w = IsWithin e w × AreWithin es (undone e w)

abbrev pub history_of : List Entry → Whole → History
history_of log w = record { now = w; earlier = before (reverse log) w }
