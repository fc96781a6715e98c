-- What the tests of assignments say.
use Rattle.std.specs.Prelude.{◌≡◌, ℕ, ◌<◌, ◌↔◌, All, Any, IsTrue, slice_index_or}
use Rattle.dom_set.specs.Elements.{is_in}
use Rattle.rv_isa.specs.declared.operation.Op.{Op}
use Rattle.fd_prob.specs.declared.problem.Assignment.{Assignment}
use Rattle.fd_prob.specs.declared.problem.Case.{Case}
use Rattle.fd_prob.specs.declared.problem.Problem.{Problem}
use Rattle.fd_prob.specs.declared.relation.Rel.{Rel}
use Rattle.fd_prob.specs.declared.slot.Slot.{Slot}
use Rattle.fd_prob.specs.declared.slot.Slot.TheVariants as slots
use Rattle.fd_prob.specs.declared.slot.TheConstants.{SLOTS}
use Rattle.fd_prob.specs.Fitting.{domain_of, fits}
use Rattle.fd_prob.specs.Mentions.{Agree}
use Rattle.fd_prob.specs.Relations.{holds, value_of}
use Rattle.rv_isa.specs.Numbers.{op_numbered}
use Rattle.fd_prob.specs.Slots.{slot_number}

-- an assignment has a case's operation, each value is in its domain there, and each relation of the case holds
pub record IsOfCase (x : Assignment) (c : Case) : Type 0 where
  pub op : value_of x slots.Op ≡ c.op
  pub domains : (s : Slot) → IsTrue (is_in (domain_of c s) (value_of x s))
  pub relations : All (λ r. IsTrue (holds (op_numbered c.op) x r)) c.rels

-- what fits a problem is of one of its cases
abbrev pub FittingIsOfACase : Type 0
FittingIsOfACase = (p : Problem) (x : Assignment) → IsTrue (fits p x) ↔ Any (IsOfCase x) p.cases

-- the list of the variables has each at its place
pub record SlotsAreInOrder : Type 0 where
  pub at : (n : ℕ) (d : Slot) → n < 14 → slot_number (slice_index_or SLOTS n d) ≡ n
  pub below : (s : Slot) → slot_number s < 14
  pub back : (s d : Slot) → slice_index_or SLOTS (slot_number s) d ≡ s

-- a relation looks only at the variables that it mentions
abbrev pub RelationsLookAtMentioned : Type 0
RelationsLookAtMentioned = (op : Op) (r : Rel) (x y : Assignment) → Agree r x y → holds op x r ≡ holds op y r
