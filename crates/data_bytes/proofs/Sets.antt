-- Sets by their tests.
use Rattle.std.proofs.Common.{◌≡◌, ℕ, ◌+◌, ◌%◌, ◌<◌, ◌^◌, Bool, true, false, ◌&&◌, ◌||◌, cond, not, nat_le, List, [], ◌∷◌, refl, sym, ap, ◌∙◌, arith}
use Rattle.std.specs.List.{filter}
use Rattle.std.specs.Bool.{◌==◌}
use Rattle.std.proofs.lemmas.Bool.Decides.{nat_tests}
use Rattle.std.proofs.lemmas.Bool.{eqb-true}
use Rattle.dom_set.specs.Elements.{elements_of, is_in, is_within}
use Rattle.dom_set.proofs.Sets.{is_in-elements}
use Rattle.data_bytes.specs.Sets.{IsSetOf}

-- the set of a test's elements
pub elements_are : (test : ℕ → Bool) (set : List ℕ) → set ≡ elements_of test → IsSetOf test set
elements_are test set e v small = ap (λ (s : List ℕ). is_in s v) e ∙ is_in-elements test v small

and_none : (a b : Bool) → b ≡ false → (a && b) ≡ false
and_none true b e = e
and_none false b e = refl

is_in-filter : (p : ℕ → Bool) (xs : List ℕ) (v : ℕ) → is_in (filter p xs) v ≡ (is_in xs v && p v)
is_in-filter p [] v = refl
is_in-filter p (x ∷ xs) v = step (p x) (x == v) refl refl (is_in-filter p xs v) where
  step : (a b : Bool) → p x ≡ a → (x == v) ≡ b → is_in (filter p xs) v ≡ (is_in xs v && p v) → is_in (cond a (x ∷ filter p xs) (filter p xs)) v ≡ ((b || is_in xs v) && p v)
  step true true h k ih = ap (λ (t : Bool). t || is_in (filter p xs) v) k ∙ sym h ∙ ap p (eqb-true x v k)
  step true false h k ih = ap (λ (t : Bool). t || is_in (filter p xs) v) k ∙ ih
  step false true h k ih = ih ∙ and_none (is_in xs v) (p v) (sym (ap p (eqb-true x v k)) ∙ h) ∙ sym (sym (ap p (eqb-true x v k)) ∙ h)
  step false false h k ih = ih

-- what a filter leaves
pub filter_leaves : (p : ℕ → Bool) (xs set : List ℕ) → set ≡ filter p xs → (v : ℕ) → is_in set v ≡ (is_in xs v && p v)
filter_leaves p xs set e v = ap (λ (s : List ℕ). is_in s v) e ∙ is_in-filter p xs v

-- a set in whose place stands its test
pub and_test : (xs ys set : List ℕ) (test : ℕ → Bool) → IsSetOf test ys → set ≡ filter (is_in ys) xs → IsSetOf (λ v. is_in xs v && test v) set
and_test xs ys set test h e v small = filter_leaves (is_in ys) xs set e v ∙ ap (λ (b : Bool). is_in xs v && b) (h v small)

-- of a set what does not pass a test
pub minus_test : (xs ys set : List ℕ) (first second : ℕ → Bool) → IsSetOf first xs → IsSetOf second ys → set ≡ filter (λ x. not (is_in ys x)) xs → IsSetOf (λ v. first v && not (second v)) set
minus_test xs ys set first second h k e v small = filter_leaves (λ x. not (is_in ys x)) xs set e v ∙ ap (λ (b : Bool). b && not (is_in ys v)) (h v small) ∙ ap (λ (b : Bool). first v && not b) (k v small)

pub run_test : (low high v : ℕ) → (v % 1 == 0 && is_within ((low, high) ∷ []) v) ≡ (nat_le low v && nat_le v high)
run_test low high v = grind (arith, nat_tests)

pub runs_test : (runs : List (ℕ × ℕ)) (v : ℕ) → (v % 1 == 0 && is_within runs v) ≡ is_within runs v
runs_test runs v = (let one : (v % 1 == 0) ≡ true = grind (arith, nat_tests) in ap (λ (b : Bool). b && is_within runs v) one)

-- the set of the numbers in runs
pub runs_are : (runs : List (ℕ × ℕ)) (set : List ℕ) → set ≡ elements_of (λ x. x % 1 == 0 && is_within runs x) → IsSetOf (is_within runs) set
runs_are runs set e v small = elements_are (λ x. x % 1 == 0 && is_within runs x) set e v small ∙ runs_test runs v

-- what was moved back by a distance that doesn't wrap
pub moved : (xs set : List ℕ) (back v : ℕ) → set ≡ elements_of (λ y. is_in xs ((y + back) % 2 ^ 32)) → v + back < 2 ^ 32 → is_in set v ≡ is_in xs (v + back)
moved xs set back v e lt =
    let small : v < 2 ^ 32 = omega arith in
    let stays : (v + back) % 2 ^ 32 ≡ v + back = grind arith in
    elements_are (λ y. is_in xs ((y + back) % 2 ^ 32)) set e v small ∙ ap (is_in xs) stays

-- of a set what is in another one too and not in a third
pub left_of : (ram known untouched bytes set : List ℕ) (test : ℕ → Bool) → untouched ≡ filter (λ x. not (is_in known x)) ram → IsSetOf test bytes → set ≡ filter (is_in bytes) untouched
    → IsSetOf (λ v. (is_in ram v && not (is_in known v)) && test v) set
left_of ram known untouched bytes set test e h k v small =
    and_test untouched bytes set test h k v small ∙ ap (λ (b : Bool). b && test v) (filter_leaves (λ x. not (is_in known x)) ram untouched e v)
