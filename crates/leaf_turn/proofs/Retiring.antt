-- The set of one number.
use Rattle.std.proofs.Common.{◌≡◌, ℕ, zero, suc, ◌<◌, ◌%◌, ◌^◌, ◌&&◌, Bool, true, false, leb, [], ◌∷◌, refl, sym, ◌∙◌, subst, inl, inr, arith}
use Rattle.std.specs.Prelude.{◌==◌, All}
use Rattle.std.specs.List.Sorted.{IsStrictlyIncreasing}
use Rattle.std.proofs.lemmas.Bool.{and_parts, cases_eq, leb-true, ne_eqb}
use Rattle.dom_set.specs.Elements.{elements_of, is_in, is_within}
use Rattle.dom_set.specs.Laws.{AscendingAreElements, SameTestsSameElements}

abbrev ranged : ℕ → Bool
ranged x = x % 1 == 0 && is_within ((255, 255) ∷ []) x

not_between : (x : ℕ) → (b : Bool) → (leb 255 x && leb x 255) ≡ b → ((255 ≡ x) → ⊥) → b ≡ false
not_between x false h other = refl
not_between x true h other =
    let p = and_parts (leb 255 x) (leb x 255) h in
    let low = leb-true 255 x p.0 in
    let high = leb-true x 255 p.1 in
    absurd (other (omega (arith, low, high)))

same_test : (x : ℕ) → ranged x ≡ is_in (255 ∷ []) x
same_test x = elim (cases_eq 255 x) [
  | inl same ↦ subst (λ (n : ℕ). ranged n ≡ is_in (255 ∷ []) n) same refl
  | inr other ↦
      let none : (leb 255 x && leb x 255) ≡ false = not_between x (leb 255 x && leb x 255) refl other in
      let whole : x % 1 ≡ 0 = omega arith in
      rw (whole, none, ne_eqb 255 x other) refl
]

increasing : IsStrictlyIncreasing (255 ∷ [])
increasing k h = absurd (omega (arith, h))

small_all : All (λ x. x < 2 ^ 32) (255 ∷ [])
small_all zero d h = omega arith
small_all (suc k) d h = absurd (omega (arith, h))

pub alone : SameTestsSameElements → AscendingAreElements → elements_of ranged ≡ 255 ∷ []
alone same ascending = same ranged (is_in (255 ∷ [])) (λ x small. same_test x) ∙ sym (ascending (255 ∷ []) increasing small_all)
