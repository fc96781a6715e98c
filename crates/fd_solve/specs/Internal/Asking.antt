-- What a bias that nothing fits tells of cases.
use Rattle.std.specs.Prelude.{◌≡◌, ℕ, true, false, List, slice_index_or}
use Rattle.dom_set.specs.Elements.{is_in}
use Rattle.rv_isa.specs.declared.operation.Op.{Op}
use Rattle.fd_prob.specs.declared.problem.Assignment.{Assignment}
use Rattle.fd_prob.specs.declared.problem.Case.{Case}
use Rattle.fd_prob.specs.declared.problem.Extra.{Extra}
use Rattle.fd_prob.specs.declared.slot.Slot.{Slot}
use Rattle.fd_prob.specs.Fitting.{fits_case}
use Rattle.fd_prob.specs.Order.{IsAssignment}
use Rattle.fd_prob.specs.Relations.{value_of}
use Rattle.fd_solve.specs.Internal.Meeting.{meets_bias}

-- in a case that stays, an assignment with a value in the set meets the bias
abbrev pub AsksFor : Extra → Slot → List ℕ → Type 0
AsksFor e s set = (op : Op) (x : Assignment) (place : ℕ) → IsAssignment x → slice_index_or e.cases place false ≡ true → is_in set (value_of x s) ≡ true → meets_bias op x place e ≡ true

-- no assignment that fits the case has a value in the set
abbrev pub HasNone : Slot → List ℕ → Case → Type 0
HasNone s set c = (x : Assignment) → IsAssignment x → fits_case x c ≡ true → is_in set (value_of x s) ≡ false

-- the case with other domains
abbrev pub with_doms : Case → List (List ℕ) → Case
with_doms c doms = record { op = c.op; doms = doms; rels = c.rels }
