-- Variables that have one value, or two.
use Rattle.std.proofs.Common.{◌≡◌, ℕ, ◌≤◌, ◌||◌, ◌==◌, ◌⊎◌, inl, inr, ◌∷◌, eq-eqb, not, Bool, true, false, List, [], IsTrue, length, refl, sym, ap, ◌∙◌, subst, arith, eqb-true}
use Rattle.std.specs.List.{filter}
use Rattle.dom_set.specs.Elements.{is_in}
use Rattle.fd_prob.specs.declared.problem.Assignment.{Assignment}
use Rattle.fd_prob.specs.declared.slot.Slot.{Slot}
use Rattle.fd_prob.specs.declared.slot.Slot.TheVariants as slots
use Rattle.fd_prob.specs.Relations.{is_linked, is_same, value_of}
use Rattle.fd_narrow.specs.Narrowing.{IsInside, domain_in}
use Rattle.set_sums.specs.Internal.Spans.{IsOfRanges}
use Rattle.fd_narrow.specs.Internal.Steps.{IsAnother, IsValueIn, IsValueOutside, Leaves}
use Rattle.fd_narrow.proofs.Compositions.{followed, weakened}
use Rattle.set_sums.proofs.Members.{is_in-filter, joined, same}
use Rattle.set_sums.proofs.Spans.{of_pair, only_pair, true_or_false}

in_common : (doms : List (List ℕ)) (s t : Slot) (first second common : List ℕ) → first ≡ domain_in doms s → second ≡ domain_in doms t → common ≡ filter (is_in second) first → (x : Assignment) → IsInside doms x → value_of x s ≡ value_of x t → IsTrue (is_in common (value_of x s))
in_common doms s t first second common at_s at_t is x inside same =
    let here : IsTrue (is_in first (value_of x s)) = subst (λ (d : List ℕ). IsTrue (is_in d (value_of x s))) (sym at_s) (inside s) in
    let there : IsTrue (is_in second (value_of x s)) = subst (λ (n : ℕ). IsTrue (is_in second n)) (sym same) (subst (λ (d : List ℕ). IsTrue (is_in d (value_of x t))) (sym at_t) (inside t)) in
    subst (λ (b : Bool). IsTrue b) (sym (ap (λ (d : List ℕ). is_in d (value_of x s)) is ∙ is_in-filter (is_in second) first (value_of x s))) (joined (is_in second (value_of x s)) (is_in first (value_of x s)) there here)

pub same_narrows : (a b c : List (List ℕ)) (s t : Slot) (first second common : List ℕ) → first ≡ domain_in a s → second ≡ domain_in a t → common ≡ filter (is_in second) first → Leaves (IsValueIn s common) a b → Leaves (IsValueIn t common) b c → Leaves (λ x. IsTrue (is_same x s t)) a c
same_narrows a b c s t first second common at_s at_t is one two =
    let P : Assignment → Type 0 = λ x. IsTrue (is_same x s t) in
    followed P a b c
    (weakened (IsValueIn s common) P a b (λ x inside same small. in_common a s t first second common at_s at_t is x inside (eqb-true (value_of x s) (value_of x t) same)) one)
    (weakened (IsValueIn t common) P b c (λ x inside same small. subst (λ (n : ℕ). IsTrue (is_in common n)) (eqb-true (value_of x s) (value_of x t) same) (in_common a s t first second common at_s at_t is x (one.within x inside) (eqb-true (value_of x s) (value_of x t) same))) two)

outside_one : (one : List ℕ) (v w : ℕ) → IsOfRanges ((v, v) ∷ []) one → (w == v) ≡ false → is_in one w ≡ false
outside_one one v w is another = elim (true_or_false (is_in one w)) [
  | inl h ↦ absurd (differs (of_pair (v, v) w (only_pair (v, v) w (is.within w h))))
  | inr h ↦ h
] where
  differs : (v ≤ w) × (w ≤ v) → ⊥
  differs k = let e : w ≡ v = omega (arith, k.0, k.1) in cc (another, eq-eqb w v e)

pub value_taken : (a b : List (List ℕ)) (s : Slot) (v : ℕ) (one : List ℕ) → IsOfRanges ((v, v) ∷ []) one → Leaves (IsValueOutside s one) a b → Leaves (IsAnother s v) a b
value_taken a b s v one is leaves = weakened (IsValueOutside s one) (IsAnother s v) a b (λ x inside another small. outside_one one v (value_of x s) is another) leaves

pub refuted : (b : Bool) → IsTrue (not b) → b ≡ false
refuted true h = absurd (cc h)
refuted false h = refl

turned : (a b : ℕ) → (a == b) ≡ (b == a)
turned a b = same (a == b) (b == a) (λ h. eq-eqb b a (sym (eqb-true a b h))) (λ h. eq-eqb a b (sym (eqb-true b a h)))

pub different_turned : (a b : List (List ℕ)) (s t : Slot) → Leaves (λ x. IsTrue (not (is_same x t s))) a b → Leaves (λ x. IsTrue (not (is_same x s t))) a b
different_turned a b s t leaves = weakened (λ x. IsTrue (not (is_same x t s))) (λ x. IsTrue (not (is_same x s t))) a b (λ x inside differ. ap not (turned (value_of x t) (value_of x s)) ∙ differ) leaves

one_of : (b c : Bool) → IsTrue (not b || c) → c ≡ false → IsTrue (not b)
one_of true c h k = absurd (cc (h, k))
one_of false c h k = refl

pub none_in : (xs : List ℕ) → length xs ≡ 0 → (v : ℕ) → is_in xs v ≡ false
none_in [] none v = refl
none_in (x ∷ xs) none v = absurd (omega (arith, none))

-- no common value, so two registers
pub linked_apart : (a b : List (List ℕ)) (first second common : List ℕ) → first ≡ domain_in a slots.A → second ≡ domain_in a slots.B → common ≡ filter (is_in second) first → length common ≡ 0 → Leaves (λ x. IsTrue (not (is_same x slots.Rs1 slots.Rs2))) a b → Leaves (λ x. IsTrue (is_linked x)) a b
linked_apart a b first second common at_a at_b is none leaves = weakened (λ x. IsTrue (not (is_same x slots.Rs1 slots.Rs2))) (λ x. IsTrue (is_linked x)) a b
    (λ x inside linked. one_of (is_same x slots.Rs1 slots.Rs2) (is_same x slots.A slots.B) linked (apart x inside (true_or_false (is_same x slots.A slots.B)))) leaves where
      apart : (x : Assignment) → IsInside a x → IsTrue (is_same x slots.A slots.B) ⊎ (is_same x slots.A slots.B ≡ false) → is_same x slots.A slots.B ≡ false
      apart x inside (inl h) = absurd (cc (in_common a slots.A slots.B first second common at_a at_b is x inside (eqb-true (value_of x slots.A) (value_of x slots.B) h), none_in common none (value_of x slots.A)))
      apart x inside (inr h) = h
