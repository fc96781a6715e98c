-- Multiples of 4 among numbers.
use Rattle.std.proofs.Common.{◌≡◌, ℕ, ◌+◌, ◌-◌, ◌%◌, ◌<◌, ◌^◌, Bool, true, false, ◌&&◌, eqb, leb, List, [], ◌∷◌, map, filter, min, All, refl, sym, ap, ◌∙◌, arith}
use Rattle.std.proofs.lemmas.List.Elements.{All-head, All-tail}
use Rattle.std.specs.Bool.{◌==◌}
use Rattle.std.proofs.lemmas.Bool.Decides.{nat_tests}
use Rattle.std.specs.Int.{IsPowerOfTwo}
use Rattle.dom_set.specs.Elements.{elements_of, is_in, is_within}
use Rattle.dom_set.specs.Laws.{ElementsPass, IsInTests, SameTestsSameElements}
use Rattle.tpl_lang.specs.Sets.{fours, listed}

pub power_four : IsPowerOfTwo 4
power_four = (2, refl)

same_bools : (a b : Bool) → (a ≡ true → b ≡ true) → (b ≡ true → a ≡ true) → a ≡ b
same_bools true b there back = sym (there refl)
same_bools false true there back = back refl
same_bools false false there back = refl

-- a number is among the elements where it passes the test
is_element : ElementsPass → IsInTests → (test : ℕ → Bool) (x : ℕ) → x < 2 ^ 32 → is_in (elements_of test) x ≡ test x
is_element pass tests test x low = same_bools _ _ (λ h. ((pass test x).0 ((tests (elements_of test) x).0 h)).1) (λ h. (tests (elements_of test) x).1 ((pass test x).1 (low, h)))

and_true : (a b : Bool) → b ≡ true → (a && b) ≡ a
and_true true b h = h
and_true false b h = refl

within_all : (x : ℕ) → x < 2 ^ 32 → is_within ((0, 2 ^ 32 - 1) ∷ []) x ≡ true
within_all x low = grind (arith, nat_tests)

is_multiple : ElementsPass → IsInTests → (x : ℕ) → x < 2 ^ 32 → is_in (listed ((0, 2 ^ 32 - 1) ∷ []) 4) x ≡ eqb (x % 4) 0
is_multiple pass tests x low = is_element pass tests _ x low ∙ and_true _ _ (within_all x low)

kept : (p q : ℕ → Bool) (n : ℕ) (ns : List ℕ) → p n ≡ q n → filter p ns ≡ filter q ns → filter p (n ∷ ns) ≡ filter q (n ∷ ns)
kept p q n ns here rest = rw (here, rest) refl

pub fours_are : ElementsPass → IsInTests → (ns : List ℕ) → All (λ x. x < 2 ^ 32) ns → filter (is_in (listed ((0, 2 ^ 32 - 1) ∷ []) 4)) ns ≡ fours ns
fours_are pass tests [] low = refl
fours_are pass tests (n ∷ ns) low = kept _ (λ n. n % 4 == 0) n ns (is_multiple pass tests n (All-head (λ x. x < 2 ^ 32) n ns low)) (fours_are pass tests ns (All-tail (λ x. x < 2 ^ 32) n ns low))

below_min : (a x : ℕ) → x < 2 ^ 32 → leb x (min a (2 ^ 32 - 1)) ≡ leb x a
below_min a x low = grind (arith, nat_tests)

frames_within : (pool : List ℕ) (x : ℕ) → x < 2 ^ 32 → is_within (map (λ f. (f, min (f + 4095) (2 ^ 32 - 1))) pool) x ≡ is_within (map (λ f. (f, f + 4095)) pool) x
frames_within [] x low = refl
frames_within (f ∷ fs) x low = rw (below_min (f + 4095) x low, frames_within fs x low) refl

-- no number is beyond the last
pub vectors_are : SameTestsSameElements → (pool : List ℕ) → listed (map (λ f. (f, min (f + 4095) (2 ^ 32 - 1))) pool) 4 ≡ listed (map (λ f. (f, f + 4095)) pool) 4
vectors_are same pool = same _ _ (λ x low. ap (λ (b : Bool). eqb (x % 4) 0 && b) (frames_within pool x low))
