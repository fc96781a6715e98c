-- Which assignments fit a problem.
use Rattle.std.specs.Prelude.{◌≡◌, ℕ, ◌<◌, Bool, ◌&&◌, ◌==◌, List, [], All, length, slice_index_or}
use Rattle.std.specs.List.{list_any, list_all}
use Rattle.dom_set.specs.Elements.{is_in}
use Rattle.fd_prob.specs.declared.problem.Assignment.{Assignment}
use Rattle.fd_prob.specs.declared.problem.Case.{Case}
use Rattle.fd_prob.specs.declared.problem.Problem.{Problem}
use Rattle.fd_prob.specs.declared.slot.Slot.{Slot}
use Rattle.fd_prob.specs.declared.slot.Slot.TheVariants as slots
use Rattle.fd_prob.specs.declared.slot.TheConstants.{SLOTS}
use Rattle.fd_prob.specs.Relations.{holds, value_of}
use Rattle.rv_isa.specs.Numbers.{op_numbered}
use Rattle.fd_prob.specs.Slots.{slot_number}

-- a case has the number of an operation, and a domain for each variable
pub record IsCase (c : Case) : Type 0 where
  pub op : c.op < 58
  pub domains : length c.doms ≡ 14

-- each case is so
abbrev pub IsProblem : Problem → Type 0
IsProblem p = All IsCase p.cases

-- the domain of a variable
unfoldable pub domain_of : Case → Slot → List ℕ
domain_of c s = slice_index_or c.doms (slot_number s) []

-- each value is in its domain
unfoldable pub is_within : Case → Assignment → Bool
is_within c x = list_all (λ s. is_in (domain_of c s) (value_of x s)) SLOTS

-- the case has the assignment's operation, each value is in its domain, and each relation holds
unfoldable pub fits_case : Assignment → Case → Bool
fits_case x c = c.op == value_of x slots.Op && is_within c x && list_all (holds (op_numbered c.op) x) c.rels

-- the assignment fits one of the cases
abbrev pub fits : Problem → Assignment → Bool
fits p x = list_any (fits_case x) p.cases
