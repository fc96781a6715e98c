-- What pieces that are apart say of the list of their numbers.
use Rattle.std.proofs.Common.{◌≡◌, ℕ, suc, ◌+◌, ◌-◌, ◌*◌, ◌%◌, ◌^◌, ◌<◌, ◌≤◌, ◌↔◌, inl, inr, Bool, true, false, cond, ◌&&◌, ◌||◌, not, eqb, ltb, leb, bit_and, List, [], ◌∷◌, length, filter, Option, Some, None, Contains, All, IsNone, refl, sym, ap, ◌∙◌, arith}
use Rattle.std.specs.List.{find, slice_get}
use Rattle.std.specs.List.Sorted.{IsStrictlyIncreasing}
use Rattle.std.specs.Option.{option_or}
use Rattle.std.proofs.lemmas.Bool.{and_parts, cases_lt, lt-ltb, le-ltb, ltb-true, leb-true, le-leb, lt-leb, false≢true}
use Rattle.std.specs.Prelude.{pos, negsuc}
use Rattle.std.specs.Int.{w32, cast_signed}
use Rattle.std.proofs.lemmas.Int.{to_z_pos}
use Rattle.std.proofs.lemmas.Nat.{and_le_l}
use Rattle.std.proofs.lemmas.Bool.Decides.{nat_tests}
use Rattle.std.proofs.lemmas.Map.Keys.{sorted_from_strictly_increasing}
use Rattle.set_pieces.specs.declared.piece.Piece.{Piece}
use Rattle.dom_set.specs.Elements.{elements_of, is_in, first_cyclic, is_signed_lt}
use Rattle.set_pieces.specs.Counting.{one, total}
use Rattle.set_pieces.specs.Internal.Pieces.{holds, times, IsApart}
use Rattle.set_pieces.specs.Ends.{HasPage, IsFirstFrom}
use Rattle.set_pieces.proofs.Totals.{total_same}
use Rattle.dom_set.proofs.Members.{members, members_same, filter_both, is_in-members, is_in-Contains, Contains-is_in, length-members, slice_get-members, first_is_found, find_none, find_first, members_ascend, members_below}
use Rattle.dom_set.proofs.Ascending.{same_members}
use Rattle.set_pieces.proofs.Times.{holds_is, holds_once, times_is, times_past}

pub elements_is : (t : ℕ → Bool) → elements_of t ≡ members t (2 ^ 32)
unfolding elements_of
elements_is t = refl

pub elements_same : (t u : ℕ → Bool) → ((x : ℕ) → x < 2 ^ 32 → t x ≡ u x) → elements_of t ≡ elements_of u
elements_same t u h = elements_is t ∙ members_same t u (2 ^ 32) h ∙ sym (elements_is u)

pub is_in-elements : (t : ℕ → Bool) (x : ℕ) → x < 2 ^ 32 → is_in (elements_of t) x ≡ t x
is_in-elements t x lt =
    ap (λ (xs : List ℕ). is_in xs x) (elements_is t) ∙ is_in-members t (2 ^ 32) x ∙ ap (λ (b : Bool). b && t x) (lt-ltb x (2 ^ 32) lt)

-- a set that is given by a test is a filter of another, where the tests say so
pub filter_is : (t u w : ℕ → Bool) → ((x : ℕ) → x < 2 ^ 32 → w x ≡ (t x && u x)) → elements_of w ≡ filter u (elements_of t)
filter_is t u w h =
    elements_is w ∙ members_same w (λ x. t x && u x) (2 ^ 32) h ∙ sym (filter_both t u _) ∙ ap (filter u) (sym (elements_is t))

-- ---- questions

pub has_is : (ps : List Piece) (x : ℕ) → x < 2 ^ 32 → (holds ps x ≡ true) ↔ Contains (elements_of (holds ps)) x
has_is ps x lt =
    let same = is_in-elements (holds ps) x lt in
    (λ h. is_in-Contains _ x (same ∙ h), λ h. sym same ∙ Contains-is_in _ x h)

once : (ps : List Piece) (n : ℕ) → IsApart ps → total (times ps) n ≡ total (λ x. one (holds ps x)) n
once ps n apart = total_same (times ps) (λ x. one (holds ps x)) n (λ x _. times_is ps x apart)

pub size_is : (ps : List Piece) → IsApart ps → total (times ps) (2 ^ 32) ≡ length (elements_of (holds ps))
size_is ps apart = once ps (2 ^ 32) apart ∙ sym (length-members (holds ps) (2 ^ 32)) ∙ ap length (sym (elements_is (holds ps)))

pub ascending : (t : ℕ → Bool) → IsStrictlyIncreasing (elements_of t)
unfolding elements_of
ascending t = members_ascend t (2 ^ 32)

pub words : (t : ℕ → Bool) → All (λ x. x < 2 ^ 32) (elements_of t)
unfolding elements_of
words t = members_below t (2 ^ 32)

pub nth_is : (ps : List Piece) (n x : ℕ) → IsApart ps → x < 2 ^ 32 → total (times ps) x ≡ n → times ps x ≡ 1 →
    slice_get (elements_of (holds ps)) n ≡ Some x
nth_is ps n x apart lt below held =
    ap (λ (xs : List ℕ). slice_get xs n) (elements_is (holds ps))
    ∙ ap (slice_get (members (holds ps) (2 ^ 32))) (sym below ∙ once ps x apart)
    ∙ slice_get-members (holds ps) (2 ^ 32) x lt (holds_once ps x true held)

found : (t : ℕ → Bool) (from v : ℕ) → v < 2 ^ 32 → IsFirstFrom t from (Some v) → find (leb from) (elements_of t) ≡ Some v
found t from v lt is =
    ap (find (leb from)) (elements_is t)
    ∙ find_first (leb from) t (2 ^ 32) v lt (le-leb from v is.1) is.0 (λ x below h. is.2 x (leb-true from x h) below)

none_found : (t : ℕ → Bool) (from : ℕ) → IsFirstFrom t from None → find (leb from) (elements_of t) ≡ None
none_found t from none = ap (find (leb from)) (elements_is t) ∙ find_none (leb from) t (2 ^ 32) (λ x lt h. none x (leb-true from x h))

pub held_word : (ps : List Piece) (v : ℕ) → holds ps v ≡ true → v < 2 ^ 32
held_word ps v h = elim (cases_lt v (2 ^ 32)) [
  | inl lt ↦ lt
  | inr past ↦ absurd (false≢true (sym (holds_is ps v ∙ ap (ltb 0) (times_past ps v past)) ∙ h))
]

pub page_in : (ps : List Piece) (q : ℕ) → HasPage (holds ps) q → HasPage (is_in (elements_of (holds ps))) q
page_in ps q (y, h, e) = (y, is_in-elements (holds ps) y (held_word ps y h) ∙ h, e)

pub cyclic_here : (ps : List Piece) (pivot v : ℕ) → IsFirstFrom (holds ps) pivot (Some v) → Some v ≡ first_cyclic (elements_of (holds ps)) pivot
cyclic_here ps pivot v is =
    sym (ap (λ (o : Option ℕ). option_or o (slice_get (elements_of (holds ps)) 0)) (found (holds ps) pivot v (held_word ps v is.0) is))

pub first_of_all : (ps : List Piece) (o : Option ℕ) → IsFirstFrom (holds ps) 0 o → slice_get (elements_of (holds ps)) 0 ≡ o
first_of_all ps None is = first_is_found (elements_of (holds ps)) ∙ none_found (holds ps) 0 is
first_of_all ps (Some v) is = first_is_found (elements_of (holds ps)) ∙ found (holds ps) 0 v (held_word ps v is.0) is

pub cyclic_round : (ps : List Piece) (pivot : ℕ) (o : Option ℕ) → IsFirstFrom (holds ps) pivot None → IsFirstFrom (holds ps) 0 o →
    o ≡ first_cyclic (elements_of (holds ps)) pivot
cyclic_round ps pivot o none is =
    sym (first_of_all ps o is)
    ∙ sym (ap (λ (p : Option ℕ). option_or p (slice_get (elements_of (holds ps)) 0)) (none_found (holds ps) pivot none))

pub cyclic_none : (xs : List ℕ) (pivot : ℕ) → IsNone (first_cyclic xs pivot) ↔ (xs ≡ [])
cyclic_none [] pivot = (λ _. refl, λ _. refl)
cyclic_none (x ∷ xs) pivot = (λ h. absurd (never (find (leb pivot) (x ∷ xs)) h), λ e. absurd cc) where
  never : (o : Option ℕ) → IsNone (option_or o (Some x)) → ⊥
  never None h = cc
  never (Some y) h = cc

-- ---- operations

product_one : (a b : Bool) → one a * one b ≡ one (a && b)
product_one true true = refl
product_one true false = refl
product_one false b = omega arith

pub and_is : (ps qs out : List Piece) → IsApart ps → IsApart qs → ((x : ℕ) → times out x ≡ times ps x * times qs x) →
    elements_of (holds out) ≡ filter (is_in (elements_of (holds qs))) (elements_of (holds ps))
and_is ps qs out a b h = filter_is (holds ps) (is_in (elements_of (holds qs))) (holds out) (λ x lt.
    holds_once out x _ (h x ∙ (λ i. times_is ps x a i * times_is qs x b i) ∙ product_one (holds ps x) (holds qs x))
    ∙ ap (λ (t : Bool). holds ps x && t) (sym (is_in-elements (holds qs) x lt)))

some_left : (b : Bool) (n : ℕ) → ltb 0 (cond b 0 n) ≡ (ltb 0 n && not b)
some_left true n = none (ltb 0 n) where
  none : (a : Bool) → ltb 0 0 ≡ (a && false)
  none true = refl
  none false = refl
some_left false n = all (ltb 0 n) where
  all : (a : Bool) → a ≡ (a && true)
  all true = refl
  all false = refl

pub minus_is : (ps qs out : List Piece) → ((x : ℕ) → times out x ≡ cond (holds qs x) 0 (times ps x)) →
    elements_of (holds out) ≡ filter (λ x. not (is_in (elements_of (holds qs)) x)) (elements_of (holds ps))
minus_is ps qs out h = filter_is (holds ps) (λ x. not (is_in (elements_of (holds qs)) x)) (holds out) (λ x lt.
    holds_is out x ∙ ap (ltb 0) (h x) ∙ some_left (holds qs x) (times ps x)
    ∙ (λ i. sym (holds_is ps x) i && not (sym (is_in-elements (holds qs) x lt) i)))

-- a word is in one set where what is made of it is in another
moved_is : (f : ℕ → ℕ) (ps out : List Piece) → ((x : ℕ) → x < 2 ^ 32 → f x < 2 ^ 32) → ((x : ℕ) → x < 2 ^ 32 → times out x ≡ times ps (f x)) →
    elements_of (holds out) ≡ elements_of (λ x. is_in (elements_of (holds ps)) (f x))
moved_is f ps out word h = elements_same (holds out) (λ x. is_in (elements_of (holds ps)) (f x)) (λ x lt.
    holds_is out x ∙ ap (ltb 0) (h x lt) ∙ sym (holds_is ps (f x)) ∙ sym (is_in-elements (holds ps) (f x) (word x lt)))

pub shift_is : (ps out : List Piece) (d : ℕ) → ((y : ℕ) → y < 2 ^ 32 → times out y ≡ times ps ((y + (2 ^ 32 - d)) % 2 ^ 32)) →
    elements_of (holds out) ≡ elements_of (λ y. is_in (elements_of (holds ps)) ((y + (2 ^ 32 - d)) % 2 ^ 32))
shift_is ps out d h = moved_is (λ y. (y + (2 ^ 32 - d)) % 2 ^ 32) ps out (λ y lt. omega arith) h

pub odd_is : (ps out : List Piece) → ((x : ℕ) → x < 2 ^ 32 → times out x ≡ times ps (x - x % 2)) →
    elements_of (holds out) ≡ elements_of (λ x. is_in (elements_of (holds ps)) (x - x % 2))
odd_is ps out h = moved_is (λ x. x - x % 2) ps out (λ x lt. omega (arith, lt)) h

pub masked_is : (ps out : List Piece) (m : ℕ) → ((x : ℕ) → x < 2 ^ 32 → times out x ≡ times ps (bit_and x m)) →
    elements_of (holds out) ≡ elements_of (λ x. is_in (elements_of (holds ps)) (bit_and x m))
masked_is ps out m h = moved_is (λ x. bit_and x m) ps out (λ x lt. omega (arith, and_le_l x m, lt)) h

-- ---- clipped

clip_held : (b : Bool) (n : ℕ) → ltb 0 (cond b n 0) ≡ (ltb 0 n && b)
clip_held true n = all (ltb 0 n) where
  all : (a : Bool) → a ≡ (a && true)
  all true = refl
  all false = refl
clip_held false n = none (ltb 0 n) where
  none : (a : Bool) → ltb 0 0 ≡ (a && false)
  none true = refl
  none false = refl

pub clip_is : (ps out : List Piece) (from end : ℕ) (u : ℕ → Bool) → ((x : ℕ) → times out x ≡ cond (leb from x && ltb x end) (times ps x) 0) →
    ((x : ℕ) → x < 2 ^ 32 → u x ≡ (leb from x && ltb x end)) → elements_of (holds out) ≡ filter u (elements_of (holds ps))
clip_is ps out from end u h same = filter_is (holds ps) u (holds out) (λ x lt.
    holds_is out x ∙ ap (ltb 0) (h x) ∙ clip_held (leb from x && ltb x end) (times ps x)
    ∙ (λ i. sym (holds_is ps x) i && sym (same x lt) i))

pub below_same : (x y : ℕ) → ltb y x ≡ (leb 0 y && ltb y x)
below_same x y = ap (λ (b : Bool). b && ltb y x) (sym (le-leb 0 y (omega arith)))

pub from_same : (x y : ℕ) → y < 2 ^ 32 → leb x y ≡ (leb x y && ltb y (2 ^ 32))
from_same x y lt = grind (arith, nat_tests)

as_pos : (n : ℕ) → n < 2 ^ 31 → cast_signed w32 n ≡ pos n
as_pos n lt = to_z_pos w32 n lt

as_negative : (n : ℕ) → 2 ^ 31 ≤ n → cast_signed w32 n ≡ negsuc (2 ^ 32 - suc n)
as_negative n le = rw (le-ltb n (2 ^ 31) le) refl

turned : (x y : ℕ) → x < 2 ^ 32 → y < 2 ^ 32 → ltb (2 ^ 32 - suc x) (2 ^ 32 - suc y) ≡ ltb y x
turned x y lx ly = grind (arith, nat_tests)

-- less than a negative number
pub less_negative : (x y : ℕ) → 2 ^ 31 ≤ x → x < 2 ^ 32 → y < 2 ^ 32 → is_signed_lt y x ≡ (leb (2 ^ 31) y && ltb y x)
less_negative x y le lx ly = elim (cases_lt y (2 ^ 31)) [
  | inl low ↦ rw (as_pos y low, as_negative x le, lt-leb (2 ^ 31) y low) refl
  | inr high ↦ rw (as_negative y high, as_negative x le, le-leb (2 ^ 31) y high) (turned x y lx ly)
]

-- less than a number that is not negative
less_natural : (x y : ℕ) → x < 2 ^ 31 → y < 2 ^ 32 → is_signed_lt y x ≡ (ltb y x || leb (2 ^ 31) y)
less_natural x y lt ly = elim (cases_lt y (2 ^ 31)) [
  | inl low ↦ rw (as_pos y low, as_pos x lt, lt-leb (2 ^ 31) y low) (left (ltb y x))
  | inr high ↦ rw (as_negative y high, as_pos x lt, le-leb (2 ^ 31) y high) (right (ltb y x))
] where
  left : (a : Bool) → a ≡ (a || false)
  left true = refl
  left false = refl

  right : (a : Bool) → true ≡ (a || true)
  right true = refl
  right false = refl

two_clips : (x y n : ℕ) → x < 2 ^ 31 → y < 2 ^ 32 →
    cond (leb 0 y && ltb y x) n 0 + cond (leb (2 ^ 31) y && ltb y (2 ^ 32)) n 0 ≡ cond (ltb y x || leb (2 ^ 31) y) n 0
two_clips x y n lt ly = grind (arith, nat_tests)

pub signed_is : (ps out : List Piece) (x : ℕ) → x < 2 ^ 31 →
    ((y : ℕ) → times out y ≡ cond (leb 0 y && ltb y x) (times ps y) 0 + cond (leb (2 ^ 31) y && ltb y (2 ^ 32)) (times ps y) 0) →
    elements_of (holds out) ≡ filter (λ y. is_signed_lt y x) (elements_of (holds ps))
signed_is ps out x lt h = filter_is (holds ps) (λ y. is_signed_lt y x) (holds out) (λ y ly.
    holds_is out y ∙ ap (ltb 0) (h y ∙ two_clips x y (times ps y) lt ly) ∙ clip_held (ltb y x || leb (2 ^ 31) y) (times ps y)
    ∙ (λ i. sym (holds_is ps y) i && sym (less_natural x y lt ly) i))

-- ---- the laws

pub Contains-elements : (t : ℕ → Bool) (x : ℕ) → Contains (elements_of t) x ↔ ((x < 2 ^ 32) × (t x ≡ true))
Contains-elements t x = (
  λ h.
      let there : (ltb x (2 ^ 32) && t x) ≡ true =
      sym (ap (λ (xs : List ℕ). is_in xs x) (elements_is t) ∙ is_in-members t (2 ^ 32) x) ∙ Contains-is_in _ x h in
      let parts = and_parts (ltb x (2 ^ 32)) (t x) there in
      (ltb-true x (2 ^ 32) parts.0, parts.1),
  λ h. is_in-Contains _ x (is_in-elements t x h.0 ∙ h.1),
)

pub is_in_tests : (xs : List ℕ) (x : ℕ) → (is_in xs x ≡ true) ↔ Contains xs x
is_in_tests xs x = (is_in-Contains xs x, Contains-is_in xs x)

word_in : (xs : List ℕ) (x : ℕ) → All (λ y. y < 2 ^ 32) xs → is_in xs x ≡ true → x < 2 ^ 32
word_in xs x words h =
    let there = is_in-Contains xs x h in
    omega (arith, words there.0 x there.1, there.2)

-- an ascending list of words is that of the words which are in it
pub own_elements : (xs : List ℕ) → IsStrictlyIncreasing xs → All (λ x. x < 2 ^ 32) xs → xs ≡ elements_of (is_in xs)
own_elements xs up all = same_members xs (elements_of (is_in xs)) (sorted_from_strictly_increasing xs up)
    (sorted_from_strictly_increasing (elements_of (is_in xs)) (ascending (is_in xs))) (λ x.
    within x (is_in xs x) (word_in xs x all)
    ∙ sym (ap (λ (ys : List ℕ). is_in ys x) (elements_is (is_in xs)) ∙ is_in-members (is_in xs) (2 ^ 32) x)) where
      within : (x : ℕ) (b : Bool) → (b ≡ true → x < 2 ^ 32) → b ≡ (ltb x (2 ^ 32) && b)
      within x b h = grind (arith, nat_tests)

pub nothing_passes : (xs : List ℕ) → filter (λ x. false) xs ≡ []
nothing_passes [] = refl
nothing_passes (x ∷ xs) = nothing_passes xs

some_either : (h : Bool) (m n : ℕ) → h ≡ ltb 0 m → ltb 0 (cond h m n) ≡ (h || ltb 0 n)
some_either true m n is = sym is
some_either false m n is = refl

pub either_is : (ps qs out : List Piece) → ((x : ℕ) → times out x ≡ cond (holds ps x) (times ps x) (times qs x)) →
    elements_of (holds out) ≡ elements_of (λ x. is_in (elements_of (holds ps)) x || is_in (elements_of (holds qs)) x)
either_is ps qs out h = elements_same (holds out) (λ x. is_in (elements_of (holds ps)) x || is_in (elements_of (holds qs)) x) (λ x lt.
    holds_is out x ∙ ap (ltb 0) (h x) ∙ some_either (holds ps x) (times ps x) (times qs x) (holds_is ps x)
    ∙ (λ i. sym (is_in-elements (holds ps) x lt) i || (sym (holds_is qs x) ∙ sym (is_in-elements (holds qs) x lt)) i))

ranged : (b : Bool) (x : ℕ) → b ≡ true → x < 2 ^ 32 → (b && ((leb 0 x && leb x (2 ^ 32 - 1)) || false)) ≡ true
ranged true x is lt = (let low : leb 0 x ≡ true = le-leb 0 x (omega arith) in let high : leb x (2 ^ 32 - 1) ≡ true = le-leb x (2 ^ 32 - 1) (omega (arith, lt)) in rw (low, high) refl)
ranged false x is lt = absurd (cc is)

-- each word is a multiple of one in the range of all words
pub in_all : (x : ℕ) → x < 2 ^ 32 → (eqb (x % 1) 0 && ((leb 0 x && leb x 4294967295) || false)) ≡ true
in_all x lt = ranged (eqb (x % 1) 0) x (let one : x % 1 ≡ 0 = omega arith in rw one refl) lt
