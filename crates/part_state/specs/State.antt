-- What a caller sees of a test that is being made, as plain data.
use Rattle.std.specs.Prelude.{ℕ, ◌&&◌, if◌then◌else◌, List, [], ◌∷◌, ◌++◌, map, Option, slice_index_or}
use Rattle.std.specs.List.{list_any}
use Rattle.std.specs.Option.{unwrap_or}
use Rattle.rv_mem.specs.declared.words.Seen.{Seen}
use Rattle.rv_mem.specs.declared.words.Seen.TheVariants.{Vacant}
use Rattle.rv_mem.specs.Part.{valued}
use Rattle.rv_mem.specs.Ram.{in_ram}
use Rattle.rv_mem.specs.Seen.{known_word}
use Rattle.rv_script.specs.Bytes.{covers}
use Rattle.foot_map.specs.Touches.{same_role}
use Rattle.rv_hart.specs.declared.record.Record.{Record}
use Rattle.tpl_admit.specs.declared.dropped.Dropped.{Dropped}
use Rattle.tpl_admit.specs.Races.{footprint_of}
use Rattle.part_machine.specs.Notes.{Feet}
use Rattle.part_machine.specs.Whole.{Bare, Whole, given, History}

-- RAM; each hart at the start; the words that were given, as pairs of number and value in the order in which they were, and the same words with the
-- values of now; the records of each hart; each hart now; the values of the names, the choices, and the biases that were dropped
pub record Test : Type 0 where
  pub ram : List (ℕ × ℕ)
  pub first : List Bare
  pub words : List (ℕ × ℕ)
  pub memory : List (ℕ × ℕ)
  pub traces : List (List Record)
  pub harts : List Bare
  pub names : List (Option ℕ)
  pub choices : List ℕ
  pub dropped : List Dropped

-- the test of now, and the earlier ones, the oldest first
pub record State : Type 0 where
  pub now : Test
  pub earlier : List Test

-- all tests, that of now last
abbrev pub tests : State → List Test
tests s = s.earlier ++ s.now ∷ []

-- which hart touched which byte in which role, by its records
abbrev pub feet_of : List (List Record) → Feet
feet_of traces b h r = list_any (λ x. same_role x.role r && covers x b) (footprint_of (slice_index_or traces h []))

-- what is seen of memory: words that were given, and all others of RAM, untouched
abbrev pub seen_in : List (ℕ × ℕ) → List (ℕ × ℕ) → ℕ → Seen
seen_in ram words n = if in_ram ram n then valued (given words n) else Vacant

-- a test with memory and footprints as functions
abbrev pub whole : Test → Whole
whole t = record {
  ram = t.ram;
  first = t.first;
  words = t.words;
  traces = t.traces;
  harts = t.harts;
  memory = seen_in t.ram t.memory;
  feet = feet_of t.traces;
  names = t.names;
  choices = t.choices;
  dropped = t.dropped;
}

-- the whole of now
abbrev pub here : State → Whole
here s = whole s.now

-- a whole as data
abbrev pub data_of : Whole → Test
data_of w = record {
  ram = w.ram;
  first = w.first;
  words = w.words;
  memory = map (λ e. (e.0, unwrap_or (known_word (w.memory e.0)) 0)) w.words;
  traces = w.traces;
  harts = w.harts;
  names = w.names;
  choices = w.choices;
  dropped = w.dropped;
}

abbrev pub state_in : History → State
state_in h = record { now = data_of h.now; earlier = map data_of h.earlier }
