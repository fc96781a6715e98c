-- What is in the domains of a case.
use Rattle.std.proofs.Common.{◌≡◌, ℕ, true, List, [], refl, sym, ap, subst}
use Rattle.std.specs.Prelude.{slice_index_or}
use Rattle.std.specs.List.{list_all}
use Rattle.dom_set.specs.Elements.{is_in}
use Rattle.fd_narrow.specs.Narrowing.{IsInside, domain_in}
use Rattle.fd_prob.specs.declared.problem.Assignment.{Assignment}
use Rattle.fd_prob.specs.declared.problem.Case.{Case}
use Rattle.fd_prob.specs.declared.slot.Slot.{Slot}
use Rattle.fd_prob.specs.declared.slot.TheConstants.{SLOTS}
use Rattle.fd_prob.specs.Fitting.{domain_of, is_within}
use Rattle.fd_prob.specs.Relations.{value_of}
use Rattle.fd_prob.specs.Slots.{slot_number}

pub domain_is : (c : Case) (s : Slot) → domain_of c s ≡ domain_in c.doms s
unfolding domain_of
domain_is c s = refl

-- what is inside the domains of the case is in each of them
pub inside_of : (c : Case) (x : Assignment) → ((s : Slot) → is_in (domain_of c s) (value_of x s) ≡ true) → IsInside c.doms x
inside_of c x each s = subst (λ (xs : List ℕ). is_in xs (value_of x s) ≡ true) (domain_is c s) (each s)

pub each_of : (c : Case) (x : Assignment) → IsInside c.doms x → (s : Slot) → is_in (domain_of c s) (value_of x s) ≡ true
each_of c x inside s = subst (λ (xs : List ℕ). is_in xs (value_of x s) ≡ true) (sym (domain_is c s)) (inside s)

-- within is told by the domains alone
pub within_same : (c d : Case) (x : Assignment) → c.doms ≡ d.doms → is_within c x ≡ is_within d x
unfolding is_within domain_of
within_same c d x e = ap (λ (ds : List (List ℕ)). list_all (λ s. is_in (slice_index_or ds (slot_number s) []) (value_of x s)) SLOTS) e
