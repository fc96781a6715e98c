-- What it is to narrow the domains of a case's variables by its relations.
use Rattle.std.specs.Prelude.{ℕ, List, [], All, IsTrue, slice_index_or}
use Rattle.dom_set.specs.Elements.{is_in}
use Rattle.rv_isa.specs.declared.operation.Op.{Op}
use Rattle.fd_prob.specs.declared.problem.Assignment.{Assignment}
use Rattle.fd_prob.specs.declared.relation.Rel.{Rel}
use Rattle.fd_prob.specs.declared.slot.Slot.{Slot}
use Rattle.fd_prob.specs.Relations.{holds, value_of}
use Rattle.fd_prob.specs.Slots.{slot_number}

-- the domain of a variable among these
abbrev pub domain_in : List (List ℕ) → Slot → List ℕ
domain_in doms s = slice_index_or doms (slot_number s) []

-- each value is in its domain
abbrev pub IsInside : List (List ℕ) → Assignment → Type 0
IsInside doms x = (s : Slot) → IsTrue (is_in (domain_in doms s) (value_of x s))

-- each relation holds
abbrev pub AllHold : Op → List Rel → Assignment → Type 0
AllHold op rels x = All (λ r. IsTrue (holds op x r)) rels

-- nothing is inside that was not, and nothing that meets the relations is lost
pub record Narrows (op : Op) (rels : List Rel) (old new : List (List ℕ)) : Type 0 where
  pub within : (x : Assignment) → IsInside new x → IsInside old x
  pub keeps : (x : Assignment) → IsInside old x → AllHold op rels x → IsInside new x
