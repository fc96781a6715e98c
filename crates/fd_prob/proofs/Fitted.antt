-- What fits is of a case.
use Rattle.std.proofs.Common.{◌≡◌, ℕ, Bool, true, false, ◌&&◌, ◌==◌, List, Any, slice_index_or, refl, subst, arith}
use Rattle.std.specs.List.{list_all}
use Rattle.std.proofs.lemmas.Bool.Decides.{nat_tests}
use Rattle.std.proofs.lemmas.List.Sums.{AllPass-from_list_all, list_all-from_AllPass}
use Rattle.std.proofs.lemmas.List.Folds.{Any-from_list_any, list_any-from_Any}
use Rattle.dom_set.specs.Elements.{is_in}
use Rattle.fd_prob.specs.declared.problem.Assignment.{Assignment}
use Rattle.fd_prob.specs.declared.problem.Case.{Case}
use Rattle.fd_prob.specs.declared.slot.Slot.{Slot}
use Rattle.fd_prob.specs.declared.slot.Slot.TheVariants as slots
use Rattle.fd_prob.specs.declared.slot.TheConstants.{SLOTS}
use Rattle.fd_prob.specs.Slots.{slot_number}
use Rattle.fd_prob.specs.Fitting.{domain_of, fits_case, is_within}
use Rattle.fd_prob.specs.Relations.{holds, value_of}
use Rattle.rv_isa.specs.Numbers.{op_numbered}
use Rattle.fd_prob.specs.Laws.{FittingIsOfACase, IsOfCase}
use Rattle.fd_prob.proofs.Places.{place_below, placed}

left : (a b : Bool) → (a && b) ≡ true → a ≡ true
left true b h = refl
left false b h = h

right : (a b : Bool) → (a && b) ≡ true → b ≡ true
right true b h = h
right false b h = absurd (cc h)

both : (a b : Bool) → a ≡ true → b ≡ true → (a && b) ≡ true
both a b e f = rw (e, f) refl

equal : (a b : ℕ) → (a == b) ≡ true → b ≡ a
equal a b h = grind (arith, nat_tests)

tested : (a b : ℕ) → b ≡ a → (a == b) ≡ true
tested a b h = grind (arith, nat_tests)

-- each value is in its domain
pub each_within : (c : Case) (x : Assignment) → is_within c x ≡ true → (s : Slot) → is_in (domain_of c s) (value_of x s) ≡ true
unfolding is_within
each_within c x h s =
    let P : Slot → Type 0 = λ t. is_in (domain_of c t) (value_of x t) ≡ true in
    subst P (placed s s) (AllPass-from_list_all (λ t. is_in (domain_of c t) (value_of x t)) SLOTS h (slot_number s) s (place_below s))

pub all_within : (c : Case) (x : Assignment) → ((s : Slot) → is_in (domain_of c s) (value_of x s) ≡ true) → is_within c x ≡ true
unfolding is_within
all_within c x each = list_all-from_AllPass (λ s. is_in (domain_of c s) (value_of x s)) SLOTS (λ k d within. each (slice_index_or SLOTS k d))

pub of_case : (x : Assignment) (c : Case) → fits_case x c ≡ true → IsOfCase x c
unfolding fits_case
of_case x c h =
    let front : (c.op == value_of x slots.Op && is_within c x) ≡ true = left (c.op == value_of x slots.Op && is_within c x) (list_all (holds (op_numbered c.op) x) c.rels) h in
    record {
      op = equal c.op (value_of x slots.Op) (left (c.op == value_of x slots.Op) (is_within c x) front);
      domains = each_within c x (right (c.op == value_of x slots.Op) (is_within c x) front);
      relations = AllPass-from_list_all (holds (op_numbered c.op) x) c.rels (right (c.op == value_of x slots.Op && is_within c x) (list_all (holds (op_numbered c.op) x) c.rels) h);
    }

pub fits_its_case : (x : Assignment) (c : Case) → IsOfCase x c → fits_case x c ≡ true
unfolding fits_case
fits_its_case x c h =
    both (c.op == value_of x slots.Op && is_within c x) (list_all (holds (op_numbered c.op) x) c.rels) (both (c.op == value_of x slots.Op) (is_within c x) (tested c.op (value_of x slots.Op) h.op) (all_within c x h.domains)) (list_all-from_AllPass (holds (op_numbered c.op) x) c.rels h.relations)

there : (x : Assignment) (cs : List Case) → Any (λ c. fits_case x c ≡ true) cs → Any (IsOfCase x) cs
there x cs (k, c, within, at_k, is) = (k, c, within, at_k, of_case x c is)

back : (x : Assignment) (cs : List Case) → Any (IsOfCase x) cs → Any (λ c. fits_case x c ≡ true) cs
back x cs (k, c, within, at_k, is) = (k, c, within, at_k, fits_its_case x c is)

pub fitting : FittingIsOfACase
fitting p x = (λ h. there x p.cases (Any-from_list_any (fits_case x) p.cases h), λ h. list_any-from_Any (fits_case x) p.cases (back x p.cases h))
