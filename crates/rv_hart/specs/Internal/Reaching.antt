-- What the code says of an address that it translates.
use Rattle.std.specs.Prelude.{◌≡◌, ℕ, List, Result, Ok, Err}
use Rattle.rv_script.specs.declared.access.Access.{Access}
use Rattle.rv_script.specs.Folds.{Known, Teller, prefixed}
use Rattle.rv_script.specs.Script.{Script}
use Rattle.sv_walk.specs.declared.entry.Kind.{Kind}
use Rattle.sv_walk.specs.declared.entry.View.{View}
use Rattle.rv_hart.specs.declared.looked.Looked.{Looked}
use Rattle.rv_hart.specs.declared.record.Change.{Change}
use Rattle.rv_hart.specs.Fixed.{Fixed}
use Rattle.rv_hart.specs.Machine.{at_address}
use Rattle.rv_hart.specs.Sighted.{answer_seen}
use Rattle.rv_hart.specs.View.{looked}

-- what follows on a physical address is what follows on the virtual one, or there is none and the answer is this
abbrev pub IsReached : Teller → Known → Fixed → ℕ → View → Kind → ℕ → List Access → List Access → Result ℕ Looked → Type 0
IsReached sights known f word v kind va before after (Ok pa) = (next : ℕ → Script Change) → prefixed after (answer_seen sights known (next pa)) ≡ prefixed before (answer_seen sights known (at_address f word v kind va next))
IsReached sights known f word v kind va before after (Err l) = (next : ℕ → Script Change) → looked after l ≡ prefixed before (answer_seen sights known (at_address f word v kind va next))
