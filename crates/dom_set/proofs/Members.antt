-- The numbers below n that pass a test, in order.
use Rattle.std.proofs.Common.{◌≡◌, ◌≢◌, ℕ, zero, suc, ◌+◌, ◌<◌, inl, inr, Bool, true, false, cond, ◌&&◌, ◌||◌, eqb, ltb, leb, List, [], ◌∷◌, ◌++◌, length, get_or, filter, Option, Some, None, Contains, All, refl, sym, ap, ◌∙◌, arith, length-append}
use Rattle.std.specs.List.{find, slice_get}
use Rattle.std.specs.List.Sorted.{IsStrictlyIncreasing}
use Rattle.std.specs.Option.{option_or}
use Rattle.std.proofs.lemmas.Bool.{cases_eq, eq-eqb, eqb-true, le-leb, true≢false}
use Rattle.std.proofs.lemmas.Bool.Decides.{nat_tests}
use Rattle.std.proofs.lemmas.List.{get_or_append_left, get_or_push, get_or_default}
use Rattle.std.proofs.lemmas.List.Elements.{filter-append, All-filter}
use Rattle.std.proofs.lemmas.List.Folds.{list_any-append, find-append, Any-from_list_any, list_any_at}
use Rattle.std.proofs.lemmas.List.Kept.{IsStrictlyIncreasing-filter}
use Rattle.dom_set.specs.Elements.{numbers_below, is_in}
use Rattle.set_pieces.specs.Counting.{one, total}

abbrev pub members : (ℕ → Bool) → ℕ → List ℕ
members t n = filter t (numbers_below n)

pub members_none : (t : ℕ → Bool) → members t 0 ≡ []
unfolding numbers_below
members_none t = refl

pub members_next : (t : ℕ → Bool) (n : ℕ) → members t (suc n) ≡ members t n ++ cond (t n) (n ∷ []) []
unfolding numbers_below
members_next t n = filter-append t (numbers_below n) (n ∷ [])

pub members_same : (t u : ℕ → Bool) (n : ℕ) → ((x : ℕ) → x < n → t x ≡ u x) → members t n ≡ members u n
members_same t u zero h = members_none t ∙ sym (members_none u)
members_same t u (suc n) h =
    members_next t n
    ∙ (λ i. members_same t u n (λ x lt. h x (omega arith)) i ++ cond (h n (omega arith) i) (n ∷ []) [])
    ∙ sym (members_next u n)

-- what passes two tests, one after the other
pub filter_both : (t u : ℕ → Bool) (xs : List ℕ) → filter u (filter t xs) ≡ filter (λ x. t x && u x) xs
filter_both t u [] = refl
filter_both t u (x ∷ xs) = step (t x) (filter_both t u xs) where
  step : (a : Bool) → filter u (filter t xs) ≡ filter (λ y. t y && u y) xs →
      filter u (cond a (x ∷ filter t xs) (filter t xs)) ≡ cond (a && u x) (x ∷ filter (λ y. t y && u y) xs) (filter (λ y. t y && u y) xs)
  step true h = λ i. cond (u x) (x ∷ h i) (h i)
  step false h = h

last_other : (n x : ℕ) (b : Bool) → x ≢ n → is_in (cond b (n ∷ []) []) x ≡ false
last_other n x true ne = grind (arith, nat_tests)
last_other n x false ne = refl

last_here : (n : ℕ) (b : Bool) → is_in (cond b (n ∷ []) []) n ≡ b
last_here n true = grind (arith, nat_tests)
last_here n false = refl

in_other : (n x : ℕ) (a b : Bool) → x ≢ n → b ≡ false → ((ltb x n && a) || b) ≡ (ltb x (suc n) && a)
in_other n x a b ne h = grind (arith, nat_tests)

in_here : (n : ℕ) (a b : Bool) → b ≡ a → ((ltb n n && a) || b) ≡ (ltb n (suc n) && a)
in_here n a b h = grind (arith, nat_tests)

none_below : (x : ℕ) (b : Bool) → false ≡ (ltb x 0 && b)
none_below x b = grind (arith, nat_tests)

pub is_in-members : (t : ℕ → Bool) (n x : ℕ) → is_in (members t n) x ≡ (ltb x n && t x)
is_in-members t zero x = ap (λ (xs : List ℕ). is_in xs x) (members_none t) ∙ none_below x (t x)
is_in-members t (suc n) x =
    ap (λ (xs : List ℕ). is_in xs x) (members_next t n)
    ∙ list_any-append (λ y. eqb y x) (members t n) (cond (t n) (n ∷ []) [])
    ∙ ap (λ (b : Bool). b || is_in (cond (t n) (n ∷ []) []) x) (is_in-members t n x)
    ∙ elim (cases_eq x n) [
      | inl here ↦ rw here (in_here n (t n) _ (last_here n (t n)))
      | inr other ↦ in_other n x (t x) _ other (last_other n x (t n) other)
    ]

length_last : (n : ℕ) (b : Bool) → length (cond b (n ∷ []) []) ≡ one b
length_last n true = refl
length_last n false = refl

pub length-members : (t : ℕ → Bool) (n : ℕ) → length (members t n) ≡ total (λ x. one (t x)) n
unfolding total
length-members t zero = ap length (members_none t)
length-members t (suc n) =
    ap length (members_next t n) ∙ length-append (members t n) (cond (t n) (n ∷ []) [])
    ∙ (λ i. length-members t n i + length_last n (t n) i)

-- an element of the front of a list
get_front : (xs ys : List ℕ) (k : ℕ) (x : ℕ) → slice_get xs k ≡ Some x → slice_get (xs ++ ys) k ≡ Some x
get_front [] ys k x h = absurd cc
get_front (z ∷ zs) ys zero x h = h
get_front (z ∷ zs) ys (suc k) x h = get_front zs ys k x h

get_end : (xs : List ℕ) (x : ℕ) → slice_get (xs ++ x ∷ []) (length xs) ≡ Some x
get_end [] x = refl
get_end (z ∷ zs) x = get_end zs x

pub slice_get-members : (t : ℕ → Bool) (n x : ℕ) → x < n → t x ≡ true → slice_get (members t n) (total (λ y. one (t y)) x) ≡ Some x
slice_get-members t zero x lt h = absurd (omega arith)
slice_get-members t (suc n) x lt h =
    ap (λ (xs : List ℕ). slice_get xs (total (λ y. one (t y)) x)) (members_next t n)
    ∙ elim (cases_eq x n) [
      | inl here ↦ (
          let passes : t n ≡ true = ap t (sym here) ∙ h in
          rw (here, passes, ← length-members t n) (get_end (members t n) n)
          )
      | inr other ↦ get_front (members t n) (cond (t n) (n ∷ []) []) _ x (slice_get-members t n x (omega arith) h)
    ]

-- the first of all is the first from 0
pub first_is_found : (xs : List ℕ) → slice_get xs 0 ≡ find (leb 0) xs
first_is_found [] = refl
first_is_found (x ∷ xs) = sym (ap (λ (b : Bool). cond b (Some x) (find (leb 0) xs)) (le-leb 0 x (omega arith)))

find_last : (p : ℕ → Bool) (n : ℕ) (b : Bool) → (p n ≡ true → b ≡ false) → find p (cond b (n ∷ []) []) ≡ None
find_last p n true h = go (p n) h where
  go : (b : Bool) → (b ≡ true → true ≡ false) → cond b (Some n) None ≡ None
  go true k = absurd (true≢false (k refl))
  go false k = refl
find_last p n false h = refl

pub find_none : (p t : ℕ → Bool) (n : ℕ) → ((x : ℕ) → x < n → p x ≡ true → t x ≡ false) → find p (members t n) ≡ None
find_none p t zero h = ap (find p) (members_none t)
find_none p t (suc n) h =
    ap (find p) (members_next t n) ∙ find-append p (members t n) (cond (t n) (n ∷ []) [])
    ∙ (λ i. option_or (find_none p t n (λ x lt. h x (omega arith)) i) (find_last p n (t n) (h n (omega arith)) i))

pub find_first : (p t : ℕ → Bool) (n v : ℕ) → v < n → p v ≡ true → t v ≡ true → ((x : ℕ) → x < v → p x ≡ true → t x ≡ false) → find p (members t n) ≡ Some v
find_first p t zero v lt pv tv h = absurd (omega arith)
find_first p t (suc n) v lt pv tv h =
    ap (find p) (members_next t n) ∙ find-append p (members t n) (cond (t n) (n ∷ []) [])
    ∙ elim (cases_eq v n) [
      | inl here ↦ (
          let passes : t n ≡ true = ap t (sym here) ∙ tv in
          let wanted : p n ≡ true = ap p (sym here) ∙ pv in
          let none : find p (members t n) ≡ None = find_none p t n (λ x lt. h x (omega arith)) in
          rw (none, passes, wanted, here) refl
          )
      | inr other ↦ ap (λ (o : Option ℕ). option_or o (find p (cond (t n) (n ∷ []) []))) (find_first p t n v (omega arith) pv tv h)
    ]

length-numbers : (n : ℕ) → length (numbers_below n) ≡ n
unfolding numbers_below
length-numbers zero = refl
length-numbers (suc n) = length-append (numbers_below n) (n ∷ []) ∙ omega (arith, length-numbers n)

get_or-numbers : (n k : ℕ) → k < n → get_or (numbers_below n) k 0 ≡ k
unfolding numbers_below
get_or-numbers zero k lt = absurd (omega arith)
get_or-numbers (suc n) k lt = elim (cases_eq k n) [
  | inl here ↦ get_or_push (numbers_below n) n 0 k (length-numbers n ∙ sym here) ∙ sym here
  | inr other ↦ get_or_append_left (numbers_below n) (n ∷ []) 0 k (omega (arith, length-numbers n)) ∙ get_or-numbers n k (omega arith)
]

-- the elements ascend
pub members_ascend : (t : ℕ → Bool) (n : ℕ) → IsStrictlyIncreasing (members t n)
members_ascend t n = IsStrictlyIncreasing-filter t (numbers_below n)
    (λ k lt. omega (arith, length-numbers n, get_or-numbers n k (omega (arith, length-numbers n)), get_or-numbers n (k + 1) (omega (arith, length-numbers n))))

-- and are below n
pub members_below : (t : ℕ → Bool) (n : ℕ) → All (λ x. x < n) (members t n)
members_below t n = All-filter t (λ x. x < n) (numbers_below n) (λ k d lt.
    let within : k < n = omega (arith, length-numbers n) in
    omega (arith, get_or_default (numbers_below n) k d 0 lt, get_or-numbers n k within))

-- whether a number is in a list, as a test and as a fact
pub is_in-Contains : (xs : List ℕ) (x : ℕ) → is_in xs x ≡ true → Contains xs x
is_in-Contains xs x h =
    let at = Any-from_list_any (λ y. eqb y x) xs h in
    let same : at.1 ≡ x = eqb-true at.1 x at.4 in
    (at.0, at.2, get_or_default xs at.0 x at.1 at.2 ∙ at.3 ∙ same)

pub Contains-is_in : (xs : List ℕ) (x : ℕ) → Contains xs x → is_in xs x ≡ true
Contains-is_in xs x h = list_any_at (λ y. eqb y x) xs h.0 x h.1 (eq-eqb _ _ h.2)
