-- A machine with its log, as its wholes.
use Rattle.std.specs.Prelude.{List, [], ◌∷◌, reverse}
use Rattle.part_machine.specs.declared.entry.Entry.{Entry}
use Rattle.part_state.specs.declared.logged.Logged.{Logged}
use Rattle.part_machine.specs.Whole.{Whole, History}
use Rattle.part_machine.specs.Undo.{history_of, whole_of, undone, AreWithin}
use Rattle.part_state.specs.Meaning.{IsTest}

abbrev pub history : Logged → History
history p = history_of p.log (whole_of p.machine)

-- the whole of now
abbrev pub now_of : Logged → Whole
now_of p = (history p).now

-- the whole of now, and each earlier one, is a test so far
abbrev pub AreTests : List Entry → Whole → Type 0
AreTests [] w = IsTest w
AreTests (e ∷ es) w = IsTest w × AreTests es (undone e w)

-- each change can be undone, and all wholes are tests so far
pub record IsKept (p : Logged) : Type 0 where
  pub within : AreWithin (reverse p.log) (whole_of p.machine)
  pub tests : AreTests (reverse p.log) (whole_of p.machine)
