-- Sets and ranges that hold what is asked for.
use Rattle.std.proofs.Common.{◌≡◌, ℕ, ◌+◌, ◌-◌, ◌%◌, ◌^◌, ◌<◌, ◌≤◌, ◌&&◌, ◌||◌, ◌==◌, Bool, true, false, List, [], ◌∷◌, ◌++◌, All, IsTrue, Some, nat_le, nat_lt, slice_get, length, get_or, refl, sym, ap, ◌∙◌, subst, arith, inl, inr, ◌⊎◌, ⊎_elim}
use Rattle.std.specs.List.{filter}
use Rattle.std.specs.List.Sorted.{IsStrictlyIncreasing}
use Rattle.std.proofs.lemmas.Bool.{cases_lt, le-leb, leb-true, lt-ltb}
use Rattle.std.proofs.lemmas.List.Folds.{list_any-append}
use Rattle.std.proofs.lemmas.List.Kept.{AllPairs-from_increasing}
use Rattle.std.proofs.lemmas.Option.{get_or_from_slice_get}
use Rattle.dom_set.specs.Elements.{elements_of, is_in, is_within}
use Rattle.dom_set.specs.Laws.{ElementsPass, IsInTests}
use Rattle.set_sums.specs.Internal.Spans.{AreCovered, AreKept, AreNegated, AreNegatives, HasDifferencesWithin, HasSums, HaveSums, IsBetween, IsOfRanges}
use Rattle.set_sums.proofs.Members.{element, is_in-elements_of, is_in-filter, joined, left, right}

pub either : (a b : Bool) → IsTrue (a || b) → IsTrue a ⊎ IsTrue b
either true b h = inl refl
either false b h = inr h

pub first_of_two : (a b : Bool) → IsTrue a → IsTrue (a || b)
first_of_two true b h = refl
first_of_two false b h = absurd (cc h)

pub second_of_two : (a b : Bool) → IsTrue b → IsTrue (a || b)
second_of_two true b h = refl
second_of_two false b h = h

pub true_or_false : (b : Bool) → IsTrue b ⊎ (b ≡ false)
true_or_false true = inl refl
true_or_false false = inr refl

pub of_pair : (span : ℕ × ℕ) (v : ℕ) → IsTrue (nat_le span.0 v && nat_le v span.1) → (span.0 ≤ v) × (v ≤ span.1)
of_pair span v h = (leb-true span.0 v (left (nat_le span.0 v) (nat_le v span.1) h), leb-true v span.1 (right (nat_le span.0 v) (nat_le v span.1) h))

pub only_pair : (span : ℕ × ℕ) (v : ℕ) → IsTrue (is_within (span ∷ []) v) → IsTrue (nat_le span.0 v && nat_le v span.1)
only_pair span v h = alone (nat_le span.0 v && nat_le v span.1) h where
  alone : (b : Bool) → IsTrue (b || false) → IsTrue b
  alone true k = refl
  alone false k = k

module _ (pass : ElementsPass) (tests : IsInTests) where
  pub shifted_has : (set made : List ℕ) (distance : ℕ) → made ≡ elements_of (λ y. is_in set ((y + (2 ^ 32 - distance)) % 2 ^ 32)) → (v : ℕ) → v < 2 ^ 32 → is_in made v ≡ is_in set ((v + (2 ^ 32 - distance)) % 2 ^ 32)
  shifted_has set made distance is v small = ap (λ (d : List ℕ). is_in d v) is ∙ is_in-elements_of pass tests (λ y. is_in set ((y + (2 ^ 32 - distance)) % 2 ^ 32)) v small

  remainder : (v : ℕ) → (v % 1 == 0) ≡ true
  remainder v = grind (arith)

  pub of_ranges : (ranges : List (ℕ × ℕ)) (made : List ℕ) → made ≡ elements_of (λ x. x % 1 == 0 && is_within ranges x) → IsOfRanges ranges made
  of_ranges ranges made is = record {
    within = λ v h. right (v % 1 == 0) (is_within ranges v) (((pass (λ x. x % 1 == 0 && is_within ranges x) v).0 ((tests (elements_of (λ x. x % 1 == 0 && is_within ranges x)) v).0 (subst (λ (d : List ℕ). IsTrue (is_in d v)) is h))).1);
    all = λ v small h. subst (λ (b : Bool). IsTrue b) (sym (ap (λ (d : List ℕ). is_in d v) is ∙ is_in-elements_of pass tests (λ x. x % 1 == 0 && is_within ranges x) v small)) (joined (v % 1 == 0) (is_within ranges v) (remainder v) h);
  }

in_pair : (span : ℕ × ℕ) (v : ℕ) → span.0 ≤ v → v ≤ span.1 → IsTrue (nat_le span.0 v && nat_le v span.1)
in_pair span v low high = joined (nat_le span.0 v) (nat_le v span.1) (le-leb span.0 v low) (le-leb v span.1 high)

-- one range more
pub pushed_kept : (ranges : List (ℕ × ℕ)) (span : ℕ × ℕ) → AreKept ranges (ranges ++ span ∷ [])
pushed_kept ranges span v h = subst (λ (b : Bool). IsTrue b) (sym (list_any-append (λ (r : ℕ × ℕ). nat_le r.0 v && nat_le v r.1) ranges (span ∷ []))) (first_of_two (is_within ranges v) (is_within (span ∷ []) v) h)

pub pushed_splits : (ranges : List (ℕ × ℕ)) (span : ℕ × ℕ) (v : ℕ) → IsTrue (is_within (ranges ++ span ∷ []) v) → IsTrue (is_within ranges v) ⊎ ((span.0 ≤ v) × (v ≤ span.1))
pushed_splits ranges span v h = ⊎_elim inl (λ k. inr (of_pair span v (only_pair span v k))) (either (is_within ranges v) (is_within (span ∷ []) v) (subst (λ (b : Bool). IsTrue b) (list_any-append (λ (r : ℕ × ℕ). nat_le r.0 v && nat_le v r.1) ranges (span ∷ [])) h))

pub pushed_has : (ranges : List (ℕ × ℕ)) (span : ℕ × ℕ) (v : ℕ) → span.0 ≤ v → v ≤ span.1 → IsTrue (is_within (ranges ++ span ∷ []) v)
pushed_has ranges span v low high = subst (λ (b : Bool). IsTrue b) (sym (list_any-append (λ (r : ℕ × ℕ). nat_le r.0 v && nat_le v r.1) ranges (span ∷ []))) (second_of_two (is_within ranges v) (is_within (span ∷ []) v) (first_of_two (nat_le span.0 v && nat_le v span.1) false (in_pair span v low high)))

at_least_first : (xs : List ℕ) (low k : ℕ) (d : ℕ) → IsStrictlyIncreasing xs → slice_get xs 0 ≡ Some low → k < length xs → low ≤ get_or xs k d
at_least_first xs low k d ascends first below = elim (cases_lt 0 k) [
  | inl above ↦ omega (arith, get_or_from_slice_get xs 0 low d first, AllPairs-from_increasing xs ascends 0 k d above below)
  | inr none ↦ let zero : 0 ≡ k = omega (arith, none) in subst (λ (i : ℕ). low ≤ get_or xs i d) zero (omega (arith, get_or_from_slice_get xs 0 low d first))
]

at_most_last : (xs : List ℕ) (high k : ℕ) (d : ℕ) → IsStrictlyIncreasing xs → slice_get xs (length xs - 1) ≡ Some high → k < length xs → get_or xs k d ≤ high
at_most_last xs high k d ascends last below =
    let end : length xs - 1 < length xs = omega (arith, below) in
    elim (cases_lt k (length xs - 1)) [
      | inl before ↦ omega (arith, get_or_from_slice_get xs (length xs - 1) high d last, AllPairs-from_increasing xs ascends k (length xs - 1) d before end)
      | inr after ↦ let same : length xs - 1 ≡ k = omega (arith, after, below) in subst (λ (i : ℕ). get_or xs i d ≤ high) same (omega (arith, get_or_from_slice_get xs (length xs - 1) high d last))
    ]

pub ends_hold : (xs : List ℕ) (low high : ℕ) → IsStrictlyIncreasing xs → slice_get xs 0 ≡ Some low → slice_get xs (length xs - 1) ≡ Some high → IsBetween xs (low, high)
ends_hold xs low high ascends first last v h = element (λ w. (low ≤ w) × (w ≤ high)) xs v (λ k d below. (at_least_first xs low k d ascends first below, at_most_last xs high k d ascends last below)) h

-- what is below the half is covered, and what is from there on
pub halves_cover : (set lower upper : List ℕ) (some all : List (ℕ × ℕ)) → lower ≡ filter (λ v. nat_lt v (2 ^ 31)) set → upper ≡ filter (λ v. nat_le (2 ^ 31) v) set → AreCovered lower some → AreKept some all → AreCovered upper all → AreCovered set all
halves_cover set lower upper some all under is low kept high v h = elim (cases_lt v (2 ^ 31)) [
  | inl below ↦ kept v (low v (subst (λ (b : Bool). IsTrue b) (sym (ap (λ (d : List ℕ). is_in d v) under ∙ is_in-filter (λ w. nat_lt w (2 ^ 31)) set v)) (joined (nat_lt v (2 ^ 31)) (is_in set v) (lt-ltb v (2 ^ 31) below) h)))
  | inr past ↦ high v (subst (λ (b : Bool). IsTrue b) (sym (ap (λ (d : List ℕ). is_in d v) is ∙ is_in-filter (λ w. nat_le (2 ^ 31) w) set v)) (joined (nat_le (2 ^ 31) v) (is_in set v) (le-leb (2 ^ 31) v past) h))
]

below_words : (n : ℕ) → n % 2 ^ 32 < 2 ^ 32
below_words n = omega arith

back : (v d : ℕ) → v < 2 ^ 32 → d < 2 ^ 32 → ((v + d) % 2 ^ 32 + (2 ^ 32 - d)) % 2 ^ 32 ≡ v
back v d small fits = omega arith

pub sums_by_shift : (first second made : List ℕ) (d : ℕ) → All (λ v. v < 2 ^ 32) first → All (λ v. v < 2 ^ 32) second → ((w : ℕ) → IsTrue (is_in second w) → w ≡ d) → ((v : ℕ) → v < 2 ^ 32 → is_in made v ≡ is_in first ((v + (2 ^ 32 - d)) % 2 ^ 32)) → HasSums first second made
sums_by_shift first second made d words others only is v w h k =
    let small : v < 2 ^ 32 = element (λ n. n < 2 ^ 32) first v words h in
    let fits : d < 2 ^ 32 = subst (λ (n : ℕ). n < 2 ^ 32) (only w k) (element (λ n. n < 2 ^ 32) second w others k) in
    subst (λ (n : ℕ). IsTrue (is_in made ((v + n) % 2 ^ 32))) (sym (only w k))
    (subst (λ (b : Bool). IsTrue b) (sym (is ((v + d) % 2 ^ 32) (below_words (v + d)) ∙ ap (is_in first) (back v d small fits))) h)

pub sums_turned : (first second made : List ℕ) → HasSums second first made → HasSums first second made
sums_turned first second made sums v w h k = subst (λ (n : ℕ). IsTrue (is_in made (n % 2 ^ 32))) (turned w v) (sums w v k h) where
  turned : (a b : ℕ) → a + b ≡ b + a
  turned a b = omega arith

away : (v w : ℕ) → v < 2 ^ 32 → w < 2 ^ 32 → ((v + w) % 2 ^ 32 + (2 ^ 32 - w) % 2 ^ 32) % 2 ^ 32 ≡ v
away v w small fits = omega arith

-- where the second set has one element
pub differences_by_shift : (first second domain made : List ℕ) (x : ℕ) → All (λ v. v < 2 ^ 32) domain → ((w : ℕ) → IsTrue (is_in second w) → w ≡ x) → ((v : ℕ) → v < 2 ^ 32 → is_in made v ≡ is_in first ((v + x) % 2 ^ 32)) → HasDifferencesWithin first second domain made
differences_by_shift first second domain made x words only is v w d h k = subst IsTrue (sym (is v (element (λ n. n < 2 ^ 32) domain v words d))) (subst (λ (n : ℕ). IsTrue (is_in first ((v + n) % 2 ^ 32))) (only w h) k)

-- what leads to 0, by ranges around the elements
pub negatives_by_ranges : (set : List ℕ) (ranges negated : List (ℕ × ℕ)) → All (λ w. w < 2 ^ 32) set → AreCovered set ranges → AreNegated negated ranges → AreNegatives set negated
negatives_by_ranges set ranges negated words covered turned w h =
    let fits : w < 2 ^ 32 = element (λ n. n < 2 ^ 32) set w words h in
    turned w (omega (arith, fits)) (covered w h)

pub differences_by_ranges : (first second domain made : List ℕ) (firsts others windows ranges : List (ℕ × ℕ)) → All (λ w. w < 2 ^ 32) second → All (λ v. v < 2 ^ 32) domain → AreCovered first firsts → AreNegatives second others → AreCovered domain windows → HaveSums ranges firsts others windows → IsOfRanges ranges made → HasDifferencesWithin first second domain made
differences_by_ranges first second domain made firsts others windows ranges words small one negatives within sums is v w d h k =
    let word : v < 2 ^ 32 = element (λ n. n < 2 ^ 32) domain v small d in
    let back : ((v + w) % 2 ^ 32 + (2 ^ 32 - w) % 2 ^ 32) % 2 ^ 32 ≡ v = away v w word (element (λ n. n < 2 ^ 32) second w words h) in
    is.all v word (subst (λ (n : ℕ). IsTrue (is_within ranges n)) back (sums ((v + w) % 2 ^ 32) ((2 ^ 32 - w) % 2 ^ 32) (one ((v + w) % 2 ^ 32) k) (negatives w h) (subst (λ (n : ℕ). IsTrue (is_within windows n)) (sym back) (within v d))))

-- one element more is a range
pub singled : (xs : List ℕ) (ranges new : List (ℕ × ℕ)) (i v k d : ℕ) → slice_get xs i ≡ Some v → new ≡ ranges ++ (v, v) ∷ [] → ((j e : ℕ) → j < i → IsTrue (is_within ranges (get_or xs j e))) → k < i + 1 → IsTrue (is_within new (get_or xs k d))
singled xs ranges new i v k d here end before lt = subst (λ (rs : List (ℕ × ℕ)). IsTrue (is_within rs (get_or xs k d))) (sym end) (elim (cases_lt k i) [
  | inl below ↦ pushed_kept ranges (v, v) (get_or xs k d) (before k d below)
  | inr from ↦
      let at : i ≡ k = omega (arith, from, lt) in
      let is : get_or xs i d ≡ v = get_or_from_slice_get xs i v d here in
      subst (λ (j : ℕ). IsTrue (is_within (ranges ++ (v, v) ∷ []) (get_or xs j d))) at (pushed_has ranges (v, v) (get_or xs i d) (omega (arith, is)) (omega (arith, is)))
])
