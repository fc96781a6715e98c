-- What is in a filtered list, and in the list of the words that pass a test.
use Rattle.std.proofs.Common.{Any, Some, slice_get, ◌≡◌, ◌==◌, ℕ, ◌^◌, ◌<◌, Bool, true, false, ◌&&◌, List, [], ◌∷◌, All, IsTrue, get_or, length, refl, sym, ap, ◌∙◌, subst, eqb-true, arith}
use Rattle.std.specs.List.{filter}
use Rattle.std.proofs.lemmas.List.Folds.{Any-from_list_any}
use Rattle.std.proofs.lemmas.Map.Views.{any-filter_same}
use Rattle.std.proofs.lemmas.Option.{get_or_from_slice_get}
use Rattle.dom_set.specs.Elements.{elements_of, is_in}
use Rattle.dom_set.specs.Laws.{ElementsPass, IsInTests}

pub same : (a b : Bool) → (IsTrue a → IsTrue b) → (IsTrue b → IsTrue a) → a ≡ b
same true true there back = refl
same true false there back = sym (there refl)
same false true there back = back refl
same false false there back = refl

pub left : (a b : Bool) → IsTrue (a && b) → IsTrue a
left true b h = refl
left false b h = h

pub right : (a b : Bool) → IsTrue (a && b) → IsTrue b
right true b h = h
right false b h = absurd (cc h)

pub joined : (a b : Bool) → IsTrue a → IsTrue b → IsTrue (a && b)
joined a b h k = rw (h, k) refl

pub is_in-filter : (p : ℕ → Bool) (xs : List ℕ) (v : ℕ) → is_in (filter p xs) v ≡ (p v && is_in xs v)
is_in-filter p xs v = any-filter_same (λ y. y == v) p (p v) (λ k h. ap p (eqb-true k v h)) xs

pub is_in-elements_of : ElementsPass → IsInTests → (test : ℕ → Bool) (v : ℕ) → v < 2 ^ 32 → is_in (elements_of test) v ≡ test v
is_in-elements_of pass tests test v small = same (is_in (elements_of test) v) (test v) (λ h. ((pass test v).0 ((tests (elements_of test) v).0 h)).1) (λ h. (tests (elements_of test) v).1 ((pass test v).1 (small, h)))

found_in : (P : ℕ → Type 0) (xs : List ℕ) (v : ℕ) → All P xs → Any (λ y. (y == v) ≡ true) xs → P v
found_in P xs v all (k, w, within, at_k, is) = subst P (eqb-true w v is) (subst P at_k (all k w within))

-- what holds of all elements holds of what is in the list
pub element : (P : ℕ → Type 0) (xs : List ℕ) (v : ℕ) → All P xs → IsTrue (is_in xs v) → P v
element P xs v all h = found_in P xs v all (Any-from_list_any (λ y. y == v) xs h)

zeroth : (k : ℕ) → k < 1 → k ≡ 0
zeroth k below = omega arith

first_of_one : (xs : List ℕ) (v : ℕ) → length xs ≡ 1 → slice_get xs 0 ≡ Some v → All (λ y. y ≡ v) xs
first_of_one xs v one first k d below = ap (λ (i : ℕ). get_or xs i d) (zeroth k (omega (arith, one, below))) ∙ get_or_from_slice_get xs 0 v d first

-- a list of one element has no other
pub only_element : (xs : List ℕ) (v : ℕ) → length xs ≡ 1 → slice_get xs 0 ≡ Some v → (y : ℕ) → IsTrue (is_in xs y) → y ≡ v
only_element xs v one first y h = element (λ w. w ≡ v) xs y (first_of_one xs v one first) h

pub only_in : (xs : List ℕ) (v : ℕ) → xs ≡ v ∷ [] → (y : ℕ) → IsTrue (is_in xs y) → y ≡ v
only_in xs v is = only_element xs v (ap length is) (ap (λ (ys : List ℕ). slice_get ys 0) is)

-- an empty list has no element
none_of : (xs : List ℕ) → length xs ≡ 0 → (v : ℕ) → is_in xs v ≡ false
none_of [] none v = refl
none_of (x ∷ xs) none v = absurd (omega (arith, none))

-- what is in both sets is in their common elements
pub in_both : (first second common : List ℕ) → common ≡ filter (is_in second) first → (v : ℕ) → IsTrue (is_in first v) → IsTrue (is_in second v) → IsTrue (is_in common v)
in_both first second common is v h k = subst (λ (b : Bool). IsTrue b) (sym (ap (λ (d : List ℕ). is_in d v) is ∙ is_in-filter (is_in second) first v)) (joined (is_in second v) (is_in first v) k h)

-- sets without a common element don't meet
pub some_common : (first second common : List ℕ) → common ≡ filter (is_in second) first → (v : ℕ) → IsTrue (is_in first v) → IsTrue (is_in second v) → (length common ≡ 0) → ⊥
some_common first second common is v h k none = cc (in_both first second common is v h k, none_of common none v)
