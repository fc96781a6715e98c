-- The numbers below n that pass a test, in order.
use Rattle.std.proofs.Common.{◌≡◌, ◌≢◌, ℕ, zero, suc, ◌+◌, ◌<◌, ◌≤◌, inl, inr, Bool, true, false, cond, ◌&&◌, ◌||◌, eqb, ltb, List, [], ◌∷◌, ◌++◌, length, get_or, filter, refl, sym, ap, ◌∙◌, arith, length-append}
use Rattle.std.specs.List.{list_any}
use Rattle.std.specs.List.Sorted.{IsStrictlyIncreasing}
use Rattle.std.proofs.lemmas.Bool.{cases_eq}
use Rattle.std.proofs.lemmas.Bool.Decides.{nat_tests}
use Rattle.std.proofs.lemmas.List.{get_or_append_left, get_or_push}
use Rattle.std.proofs.lemmas.List.Elements.{filter-append}
use Rattle.std.proofs.lemmas.List.Folds.{list_any-append}
use Rattle.std.proofs.lemmas.List.Kept.{IsStrictlyIncreasing-filter}
use Rattle.lane_bits.specs.Pages.{numbers_below, elements_of, has}

abbrev pub members : (ℕ → Bool) → ℕ → List ℕ
members t n = filter t (numbers_below n)

abbrev is_in : List ℕ → ℕ → Bool
is_in xs x = list_any (λ y. eqb y x) xs

members_none : (t : ℕ → Bool) → members t 0 ≡ []
unfolding numbers_below
members_none t = refl

members_next : (t : ℕ → Bool) (n : ℕ) → members t (suc n) ≡ members t n ++ cond (t n) (n ∷ []) []
unfolding numbers_below
members_next t n = filter-append t (numbers_below n) (n ∷ [])

members_same : (t u : ℕ → Bool) (n : ℕ) → ((x : ℕ) → x < n → t x ≡ u x) → members t n ≡ members u n
members_same t u zero h = members_none t ∙ sym (members_none u)
members_same t u (suc n) h =
    members_next t n
    ∙ (λ i. members_same t u n (λ x lt. h x (omega arith)) i ++ cond (h n (omega arith) i) (n ∷ []) [])
    ∙ sym (members_next u n)

last_other : (n x : ℕ) (b : Bool) → x ≢ n → is_in (cond b (n ∷ []) []) x ≡ false
last_other n x true ne = grind (arith, nat_tests)
last_other n x false ne = refl

last_here : (n : ℕ) (b : Bool) → is_in (cond b (n ∷ []) []) n ≡ b
last_here n true = grind (arith, nat_tests)
last_here n false = refl

in_other : (n x : ℕ) (a b : Bool) → x ≢ n → b ≡ false → ((ltb x n && a) || b) ≡ (ltb x (suc n) && a)
in_other n x a b ne h = grind (arith, nat_tests)

in_here : (n : ℕ) (a b : Bool) → b ≡ a → ((ltb n n && a) || b) ≡ (ltb n (suc n) && a)
in_here n a b h = grind (arith, nat_tests)

none_below : (x : ℕ) (b : Bool) → false ≡ (ltb x 0 && b)
none_below x b = grind (arith, nat_tests)

is_in-members : (t : ℕ → Bool) (n x : ℕ) → is_in (members t n) x ≡ (ltb x n && t x)
is_in-members t zero x = ap (λ (xs : List ℕ). is_in xs x) (members_none t) ∙ none_below x (t x)
is_in-members t (suc n) x =
    ap (λ (xs : List ℕ). is_in xs x) (members_next t n)
    ∙ list_any-append (λ y. eqb y x) (members t n) (cond (t n) (n ∷ []) [])
    ∙ ap (λ (b : Bool). b || is_in (cond (t n) (n ∷ []) []) x) (is_in-members t n x)
    ∙ elim (cases_eq x n) [
      | inl here ↦ rw here (in_here n (t n) _ (last_here n (t n)))
      | inr other ↦ in_other n x (t x) _ other (last_other n x (t n) other)
    ]

length-numbers : (n : ℕ) → length (numbers_below n) ≡ n
unfolding numbers_below
length-numbers zero = refl
length-numbers (suc n) = length-append (numbers_below n) (n ∷ []) ∙ omega (arith, length-numbers n)

get_or-numbers : (n k : ℕ) → k < n → get_or (numbers_below n) k 0 ≡ k
unfolding numbers_below
get_or-numbers zero k lt = absurd (omega arith)
get_or-numbers (suc n) k lt = elim (cases_eq k n) [
  | inl here ↦ get_or_push (numbers_below n) n 0 k (length-numbers n ∙ sym here) ∙ sym here
  | inr other ↦ get_or_append_left (numbers_below n) (n ∷ []) 0 k (omega (arith, length-numbers n)) ∙ get_or-numbers n k (omega arith)
]

members_ascend : (t : ℕ → Bool) (n : ℕ) → IsStrictlyIncreasing (members t n)
members_ascend t n = IsStrictlyIncreasing-filter t (numbers_below n)
    (λ k lt. omega (arith, length-numbers n, get_or-numbers n k (omega (arith, length-numbers n)), get_or-numbers n (k + 1) (omega (arith, length-numbers n))))

-- ---- elements

pub has_elements : (t : ℕ → Bool) (x : ℕ) → has (elements_of t) x ≡ (ltb x 4096 && t x)
unfolding has elements_of
has_elements t x = is_in-members t 4096 x

pub elements_same : (t u : ℕ → Bool) → ((x : ℕ) → x < 4096 → t x ≡ u x) → elements_of t ≡ elements_of u
unfolding elements_of
elements_same t u h = members_same t u 4096 h

pub elements_ascend : (t : ℕ → Bool) → IsStrictlyIncreasing (elements_of t)
unfolding elements_of
elements_ascend t = members_ascend t 4096

-- ---- how many

-- how many numbers below n pass
unfoldable pub passing : (ℕ → Bool) → ℕ → ℕ
passing t zero = 0
passing t (suc n) = passing t n + cond (t n) 1 0

length_last : (n : ℕ) (b : Bool) → length (cond b (n ∷ []) []) ≡ cond b 1 0
length_last n true = refl
length_last n false = refl

length-members : (t : ℕ → Bool) (n : ℕ) → length (members t n) ≡ passing t n
unfolding passing
length-members t zero = ap length (members_none t)
length-members t (suc n) =
    ap length (members_next t n) ∙ length-append (members t n) (cond (t n) (n ∷ []) [])
    ∙ (λ i. length-members t n i + length_last n (t n) i)

pub length-elements : (t : ℕ → Bool) → length (elements_of t) ≡ passing t 4096
unfolding elements_of
length-elements t = length-members t 4096

pub passing_none : (t : ℕ → Bool) → passing t 0 ≡ 0
unfolding passing
passing_none t = refl

pub passing_next : (t : ℕ → Bool) (n : ℕ) → passing t (n + 1) ≡ passing t n + cond (t n) 1 0
unfolding passing
passing_next t n = let is : n + 1 ≡ suc n = omega arith in rw is refl

at_most_one : (b : Bool) → cond b 1 0 ≤ 1
at_most_one true = omega arith
at_most_one false = omega arith

pub passing_le : (t : ℕ → Bool) (n : ℕ) → passing t n ≤ n
unfolding passing
passing_le t zero = omega arith
passing_le t (suc n) = let ih = passing_le t n in let one = at_most_one (t n) in omega arith
