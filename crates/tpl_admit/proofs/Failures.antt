-- A trace has one least failure at most, and none where its template admits it.
use Rattle.std.proofs.Common.{◌≡◌, ℕ, ◌⊎◌, Bool, true, false, cond, List, [], ◌∷◌, Some, None, refl, subst, inl, inr, arith}
use Rattle.std.specs.List.{AllByRecursion}
use Rattle.std.proofs.lemmas.Bool.{ltb-false}
use Rattle.std.proofs.lemmas.Option.{same_Some}
use Rattle.rv_script.specs.Lists.{HasItem}
use Rattle.tpl_admit.specs.declared.admission.Unmet.{Unmet}
use Rattle.tpl_admit.specs.declared.certificate.Cert.{Cert}
use Rattle.tpl_admit.specs.Admission.{Admits, trace_in}
use Rattle.tpl_admit.specs.Admitting.{comes_before, failures_of, least_among}
use Rattle.tpl_admit.specs.Unmet.{IsLeast, IsLeastFailure}
use Rattle.tpl_admit.proofs.Order.{before_turned, last, middle, never_before_itself, not_before_step, ties}

-- ---- the least of some failures

-- the least of these and of one that was found before
record IsLeastWith (fs : List Unmet) (g u : Unmet) : Type 0 where
  one : (g ≡ u) ⊎ HasItem fs u
  found : comes_before g u ≡ false
  least : AllByRecursion (λ f. comes_before f u ≡ false) fs

least_with : (fs : List Unmet) (g u : Unmet) → least_among fs (Some g) ≡ Some u → IsLeastWith fs g u
least_with [] g u is =
    let same : g ≡ u = same_Some g u is in
    record { one = inl same; found = subst (λ (x : Unmet). comes_before g x ≡ false) same (never_before_itself g); least = tt }
least_with (f ∷ fs) g u is = go (comes_before f g) refl is (λ x. least_with fs x u) where
  go : (b : Bool) → comes_before f g ≡ b → least_among fs (cond b (Some f) (Some g)) ≡ Some u → ((x : Unmet) → least_among fs (Some x) ≡ Some u → IsLeastWith fs x u) → IsLeastWith (f ∷ fs) g u
  go true b is rest =
      let so = rest f is in
      record { one = inr so.one; found = not_before_step g f u (before_turned f g b) so.found; least = (so.found, so.least) }
  go false b is rest =
      let so = rest g is in
      record {
        one = elim so.one [ inl same ↦ inl same | inr there ↦ inr (inr there) ];
        found = so.found;
        least = (not_before_step f g u b so.found, so.least);
      }

some_least : (fs : List Unmet) (g : Unmet) → least_among fs (Some g) ≡ None → ⊥
some_least [] g is = absurd (cc is)
some_least (f ∷ fs) g is = go (comes_before f g) is (some_least fs) where
  go : (b : Bool) → least_among fs (cond b (Some f) (Some g)) ≡ None → ((x : Unmet) → least_among fs (Some x) ≡ None → ⊥) → ⊥
  go true is rest = rest f is
  go false is rest = rest g is

pub none_least : (fs : List Unmet) → least_among fs None ≡ None → fs ≡ []
none_least [] is = refl
none_least (f ∷ fs) is = absurd (some_least fs f is)

pub least_is : (fs : List Unmet) (u : Unmet) → least_among fs None ≡ Some u → IsLeast fs u
least_is [] u is = absurd (cc is)
least_is (f ∷ fs) u is = let so = least_with fs f u is in record { one = so.one; least = (so.found, so.least) }

-- ---- of a certificate

item_of_none : (fs : List Unmet) (u : Unmet) → fs ≡ [] → HasItem fs u → ⊥
item_of_none [] u none there = there
item_of_none (f ∷ fs) u none there = absurd (cc none)

pub admitted_never : (c : Cert) (hart step atom : ℕ) → Admits c → IsLeastFailure c hart step atom → ⊥
admitted_never c hart step atom none l = item_of_none (failures_of (trace_in c)) (record { hart = hart; step = step; atom = atom }) none l.one

all_at : (P : Unmet → Type 0) (fs : List Unmet) (u : Unmet) → AllByRecursion P fs → HasItem fs u → P u
all_at P [] u all there = absurd there
all_at P (f ∷ fs) u all (inl same) = subst P same all.0
all_at P (f ∷ fs) u all (inr there) = all_at P fs u all.1 there

least_ties : (fs : List Unmet) (u v : Unmet) → IsLeast fs u → IsLeast fs v → (u.hart ≡ v.hart) × (u.step ≡ v.step) × (u.atom ≡ v.atom)
least_ties fs u v l m =
    let uv : comes_before u v ≡ false = all_at (λ f. comes_before f v ≡ false) fs u m.least l.one in
    let vu : comes_before v u ≡ false = all_at (λ f. comes_before f u ≡ false) fs v l.least m.one in
    let harts = ties u.hart v.hart (middle u v) (middle v u) uv vu in
    let by_step = ties u.step v.step (last u v) (last v u) harts.1 harts.2 in
    (harts.0, by_step.0, omega (arith, ltb-false u.atom v.atom by_step.1, ltb-false v.atom u.atom by_step.2))

pub one_least : (c : Cert) (hart step atom hart' step' atom' : ℕ) → IsLeastFailure c hart step atom → IsLeastFailure c hart' step' atom' → (hart ≡ hart') × (step ≡ step') × (atom ≡ atom')
one_least c hart step atom hart' step' atom' l m =
    least_ties (failures_of (trace_in c)) (record { hart = hart; step = step; atom = atom }) (record { hart = hart'; step = step'; atom = atom' }) l m
