-- What is in a set.
use Rattle.std.proofs.Common.{◌≡◌, ◌==◌, ℕ, suc, ◌%◌, ◌^◌, ◌<◌, ◌≤◌, inl, inr, Bool, true, false, ◌&&◌, ◌||◌, List, [], ◌∷◌, IsTrue, refl, sym, ap, ◌∙◌, eqb-true, arith}
use Rattle.std.specs.Prelude.{slice_index}
use Rattle.std.proofs.lemmas.Bool.{cases_lt, eq-eqb}
use Rattle.std.specs.List.{filter}
use Rattle.std.proofs.lemmas.Map.Views.{any-filter_same}
use Rattle.dom_set.specs.Elements.{elements_of, is_in, is_within}
use Rattle.dom_set.specs.Laws.{ElementsPass, IsInTests}

pub same : (a b : Bool) → (IsTrue a → IsTrue b) → (IsTrue b → IsTrue a) → a ≡ b
same true true there back = refl
same true false there back = sym (there refl)
same false true there back = back refl
same false false there back = refl

pub is_in-filter : (p : ℕ → Bool) (xs : List ℕ) (v : ℕ) → is_in (filter p xs) v ≡ (p v && is_in xs v)
is_in-filter p xs v = any-filter_same (λ y. y == v) p (p v) (λ k h. ap p (eqb-true k v h)) xs

pub is_in-elements_of : ElementsPass → IsInTests → (test : ℕ → Bool) (v : ℕ) → v < 2 ^ 32 → is_in (elements_of test) v ≡ test v
is_in-elements_of pass tests test v small = same (is_in (elements_of test) v) (test v) (λ h. ((pass test v).0 ((tests (elements_of test) v).0 h)).1) (λ h. (tests (elements_of test) v).1 ((pass test v).1 (small, h)))

flipped : (a b : Bool) → (a && b) ≡ (b && a)
flipped true true = refl
flipped true false = refl
flipped false true = refl
flipped false false = refl

-- what a set has in common with the numbers that pass a test
pub common : ElementsPass → IsInTests → (test : ℕ → Bool) (xs : List ℕ) (v : ℕ) → v < 2 ^ 32 → is_in (filter (is_in (elements_of test)) xs) v ≡ (is_in xs v && test v)
common pass tests test xs v small =
    is_in-filter (is_in (elements_of test)) xs v ∙ flipped (is_in (elements_of test) v) (is_in xs v) ∙ ap (λ (b : Bool). is_in xs v && b) (is_in-elements_of pass tests test v small)

-- SETS OF SINGLE NUMBERS

no_large : ElementsPass → IsInTests → (test : ℕ → Bool) (w : ℕ) → 2 ^ 32 ≤ w → is_in (elements_of test) w ≡ false
no_large pass tests test w large = go (is_in (elements_of test) w) (λ h. ((pass test w).0 ((tests (elements_of test) w).0 h)).0)
  where
    go : (b : Bool) → (b ≡ true → w < 2 ^ 32) → b ≡ false
    go true h = let small = h refl in absurd (omega (arith, large, small))
    go false h = refl

none_large : (vs : List ℕ) → ((k : ℕ) → slice_index vs k < 2 ^ 32) → (w : ℕ) → 2 ^ 32 ≤ w → is_in vs w ≡ false
none_large [] fits w large = refl
none_large (v ∷ vs) fits w large = go (v == w) (is_in vs w) (λ h. let e : v ≡ w = eqb-true v w h in let small : v < 2 ^ 32 = fits 0 in omega (arith, e, small, large)) (none_large vs (λ k. fits (suc k)) w large)
  where
    go : (a b : Bool) → (a ≡ true → ⊥) → b ≡ false → (a || b) ≡ false
    go true b h k = absurd (h refl)
    go false b h k = k

pub one_step : (w : ℕ) (b : Bool) → ((w % 1 == 0) && b) ≡ b
one_step w b = let e : w % 1 ≡ 0 = omega arith in let t : (w % 1 == 0) ≡ true = eq-eqb _ _ e in ap (λ (c : Bool). c && b) t

pub from_singles : ElementsPass → IsInTests → (vs s : List ℕ) (rs : List (ℕ × ℕ)) (w : ℕ) → ((k : ℕ) → slice_index vs k < 2 ^ 32) → s ≡ elements_of (λ x. x % 1 == 0 && is_within rs x) → is_within rs w ≡ is_in vs w → is_in s w ≡ is_in vs w
from_singles pass tests vs s rs w fits is within = elim (cases_lt w (2 ^ 32)) [
  | inl small ↦ ap (λ (ys : List ℕ). is_in ys w) is ∙ is_in-elements_of pass tests (λ x. x % 1 == 0 && is_within rs x) w small ∙ one_step w (is_within rs w) ∙ within
  | inr large ↦ ap (λ (ys : List ℕ). is_in ys w) is ∙ no_large pass tests (λ x. x % 1 == 0 && is_within rs x) w large ∙ sym (none_large vs fits w large)
]
