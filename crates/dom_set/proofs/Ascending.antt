-- Ascending lists of numbers are the same where they have the same members.
use Rattle.std.proofs.Common.{◌≡◌, ℕ, suc, ◌<◌, ◌≤◌, Bool, true, ◌||◌, eqb, List, [], ◌∷◌, get_or, refl, sym, ◌∙◌, arith}
use Rattle.std.specs.List.Sorted.{IsStrictlySortedBy}
use Rattle.std.specs.Ordering.{nat_cmp}
use Rattle.std.proofs.lemmas.Bool.{false≢true}
use Rattle.std.proofs.lemmas.Bool.Decides.{nat_tests}
use Rattle.std.proofs.lemmas.Map.Keys.{sorted_tail, below_from_sorted}
use Rattle.dom_set.specs.Elements.{is_in}
use Rattle.dom_set.proofs.Members.{is_in-Contains}

abbrev Ascends : List ℕ → Type 0
Ascends = IsStrictlySortedBy nat_cmp

-- what is behind the first number is greater
behind_is_above : (x : ℕ) (xs : List ℕ) (y : ℕ) → Ascends (x ∷ xs) → is_in xs y ≡ true → x < y
behind_is_above x xs y up h =
    let there = is_in-Contains xs y h in
    let above : x < get_or xs there.0 y = below_from_sorted (x ∷ xs) 0 (suc there.0) y up (omega arith) (omega (arith, there.1)) in
    omega (arith, above, there.2)

is_in-first : (x : ℕ) (xs : List ℕ) → is_in (x ∷ xs) x ≡ true
is_in-first x xs = first (is_in xs x) where
  first : (b : Bool) → (eqb x x || b) ≡ true
  first b = grind (arith, nat_tests)

-- no number of the list is less than the first
first_is_least : (x : ℕ) (xs : List ℕ) (y : ℕ) → Ascends (x ∷ xs) → is_in (x ∷ xs) y ≡ true → x ≤ y
first_is_least x xs y up h = least (is_in xs y) (behind_is_above x xs y up) h where
  least : (b : Bool) → (b ≡ true → x < y) → (eqb x y || b) ≡ true → x ≤ y
  least b above h = grind (arith, nat_tests)

same_behind : (x y z : ℕ) (a b : Bool) → x ≡ y → (a ≡ true → x < z) → (b ≡ true → y < z) → (eqb x z || a) ≡ (eqb y z || b) → a ≡ b
same_behind x y z a b same above other h = grind (arith, nat_tests)

pub same_members : (xs ys : List ℕ) → Ascends xs → Ascends ys → ((x : ℕ) → is_in xs x ≡ is_in ys x) → xs ≡ ys
same_members [] [] a b h = refl
same_members [] (y ∷ ys) a b h = absurd (false≢true (h y ∙ is_in-first y ys))
same_members (x ∷ xs) [] a b h = absurd (false≢true (sym (h x) ∙ is_in-first x xs))
same_members (x ∷ xs) (y ∷ ys) a b h =
    let below : x ≤ y = first_is_least x xs y a (h y ∙ is_in-first y ys) in
    let above : y ≤ x = first_is_least y ys x b (sym (h x) ∙ is_in-first x xs) in
    let first : x ≡ y = omega arith in
    let rest = same_members xs ys (sorted_tail nat_cmp x xs a) (sorted_tail nat_cmp y ys b)
    (λ z. same_behind x y z (is_in xs z) (is_in ys z) first (behind_is_above x xs z a) (behind_is_above y ys z b) (h z)) in
    λ i. first i ∷ rest i
