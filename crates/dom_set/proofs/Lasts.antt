-- The last number of a list of pieces, and sets of one element.
use Rattle.std.proofs.Common.{◌≡◌, ◌≢◌, ◌↔◌, IsNone, ℕ, zero, suc, ◌+◌, ◌-◌, ◌^◌, ◌<◌, ◌||◌, Bool, true, false, max, List, [], ◌∷◌, length, get_or, take, Option, Some, None, inl, inr, refl, sym, ap, ◌∙◌, subst, arith}
use Rattle.std.specs.List.{slice_get}
use Rattle.std.specs.List.Sorted.{IsStrictlyIncreasing}
use Rattle.std.proofs.lemmas.Bool.{cases_lt}
use Rattle.std.proofs.lemmas.Option.{same_Some}
use Rattle.std.proofs.lemmas.List.Folds.{list_any_more}
use Rattle.set_pieces.specs.declared.piece.Piece.{Piece}
use Rattle.dom_set.specs.Elements.{elements_of}
use Rattle.set_pieces.specs.Counting.{one, total}
use Rattle.set_pieces.specs.Internal.Pieces.{in_piece, holds}
use Rattle.set_pieces.specs.Ends.{greater, IsFirstFrom, IsLast}
use Rattle.dom_set.proofs.Members.{length-members, slice_get-members}
use Rattle.dom_set.proofs.Sets.{ascending, elements_is, first_of_all, held_word}
use Rattle.set_pieces.proofs.Totals.{total_next, total_stays, total_zero}
use Rattle.set_pieces.proofs.Lasts.{last_same}

-- ---- lists of pieces

none_or : (a b : Bool) → a ≡ false → b ≡ false → (a || b) ≡ false
none_or a b x y = (λ i. x i || y i)

held_left : (a b : Bool) → a ≡ true → (a || b) ≡ true
held_left a b x = ap (λ (c : Bool). c || b) x

held_right : (a b : Bool) → b ≡ true → (a || b) ≡ true
held_right true b h = refl
held_right false b h = h

pub last_of_both : (t u : ℕ → Bool) (a b : Option ℕ) → IsLast t a → IsLast u b → IsLast (λ x. t x || u x) (greater a b)
last_of_both t u None None none other = λ x. none_or (t x) (u x) (none x) (other x)
last_of_both t u None (Some y) none is = (held_right (t y) (u y) is.0, λ x past. none_or (t x) (u x) (none x) (is.1 x past))
last_of_both t u (Some v) None is none = (held_left (t v) (u v) is.0, λ x past. none_or (t x) (u x) (is.1 x past) (none x))
last_of_both t u (Some v) (Some y) is other = elim (cases_lt v y) [
  | inl less ↦
      let e : max v y ≡ y = omega (arith, less) in
      let P : ℕ → Type 0 = λ n. ((t n || u n) ≡ true) × ((x : ℕ) → n < x → (t x || u x) ≡ false) in
      subst P (sym e) (held_right (t y) (u y) other.0, λ x past. none_or (t x) (u x) (is.1 x (omega (arith, less, past))) (other.1 x past))
  | inr from ↦
      let e : max v y ≡ v = omega (arith, from) in
      let P : ℕ → Type 0 = λ n. ((t n || u n) ≡ true) × ((x : ℕ) → n < x → (t x || u x) ≡ false) in
      subst P (sym e) (held_left (t v) (u v) is.0, λ x past. none_or (t x) (u x) (is.1 x past) (other.1 x (omega (arith, from, past))))
]

pub last_more : (ps : List Piece) (i : ℕ) (p : Piece) (a b : Option ℕ) → i < length ps → p ≡ get_or ps i p → IsLast (holds (take i ps)) a → IsLast (in_piece p) b → IsLast (holds (take (i + 1) ps)) (greater a b)
last_more ps i p a b lt is before here = last_same (λ x. holds (take i ps) x || in_piece p x) (holds (take (i + 1) ps)) (greater a b)
    (λ x. ap (λ (q : Piece). holds (take i ps) x || in_piece q x) is ∙ sym (list_any_more (λ q. in_piece q x) ps i p lt))
    (last_of_both (holds (take i ps)) (in_piece p) a b before here)

-- ---- the list of the elements

no_element : (xs : List ℕ) (n : ℕ) → length xs ≡ 0 → slice_get xs n ≡ None
no_element [] n none = refl
no_element (x ∷ xs) n none = absurd (omega (arith, none))

pub last_of_all : (ps : List Piece) (o : Option ℕ) → IsLast (holds ps) o → slice_get (elements_of (holds ps)) (length (elements_of (holds ps)) - 1) ≡ o
last_of_all ps None none =
    let long : length (elements_of (holds ps)) ≡ 0 = ap length (elements_is (holds ps)) ∙ length-members (holds ps) (2 ^ 32) ∙ total_zero (λ x. one (holds ps x)) (2 ^ 32) (λ x lt. ap one (none x)) in
    no_element (elements_of (holds ps)) (length (elements_of (holds ps)) - 1) long
last_of_all ps (Some v) is =
    let t : ℕ → ℕ = λ x. one (holds ps x) in
    let word : v < 2 ^ 32 = held_word ps v is.0 in
    let upto : total t (2 ^ 32) ≡ total t (v + 1) = total_stays t (v + 1) (2 ^ 32) (omega (arith, word)) (λ x from lt. ap one (is.1 x (omega (arith, from)))) in
    let all : length (elements_of (holds ps)) ≡ total t (2 ^ 32) = ap length (elements_is (holds ps)) ∙ length-members (holds ps) (2 ^ 32) in
    let place : length (elements_of (holds ps)) - 1 ≡ total t v = omega (arith, all, upto, total_next t v, ap one is.0) in
    ap (slice_get (elements_of (holds ps))) place
    ∙ ap (λ (xs : List ℕ). slice_get xs (total t v)) (elements_is (holds ps))
    ∙ slice_get-members (holds ps) (2 ^ 32) v word is.0

empty_of : (xs : List ℕ) → length xs ≡ 0 → xs ≡ []
empty_of [] none = refl
empty_of (x ∷ xs) none = absurd (omega (arith, none))

some_in : (xs : List ℕ) (v : ℕ) → slice_get xs (length xs - 1) ≡ Some v → xs ≡ [] → ⊥
some_in xs v is none = absurd (cc (sym is ∙ ap (λ (ys : List ℕ). slice_get ys (length ys - 1)) none))

pub last_or_none : (ps : List Piece) (o : Option ℕ) → IsLast (holds ps) o → IsNone o ↔ (elements_of (holds ps) ≡ [])
last_or_none ps None none = (
  λ _. empty_of (elements_of (holds ps)) (ap length (elements_is (holds ps)) ∙ length-members (holds ps) (2 ^ 32) ∙ total_zero (λ x. one (holds ps x)) (2 ^ 32) (λ x lt. ap one (none x))),
  λ _. refl,
)
last_or_none ps (Some v) is = (λ h. absurd (cc h), λ e. absurd (some_in (elements_of (holds ps)) v (last_of_all ps (Some v) is) e))

get_is : (xs : List ℕ) (k d : ℕ) → k < length xs → slice_get xs k ≡ Some (get_or xs k d)
get_is [] k d lt = absurd (omega (arith, lt))
get_is (x ∷ xs) zero d lt = refl
get_is (x ∷ xs) (suc k) d lt = get_is xs k d (omega (arith, lt))

above_first : (xs : List ℕ) (k : ℕ) → IsStrictlyIncreasing xs → suc k < length xs → get_or xs 0 0 < get_or xs (suc k) 0
above_first xs zero up lt = up 0 (omega (arith, lt))
above_first xs (suc k) up lt =
    let e : suc k + 1 ≡ suc (suc k) = omega arith in
    omega (arith, above_first xs k up (omega (arith, lt)), up (suc k) (omega (arith, lt)), ap (λ (n : ℕ). get_or xs n 0) e)

last_place : (xs : List ℕ) (x n : ℕ) → length xs ≡ suc n → slice_get xs (length xs - 1) ≡ Some x → get_or xs n 0 ≡ x
last_place xs x n long last =
    let e : length xs - 1 ≡ n = omega (arith, long) in
    same_Some (get_or xs n 0) x (sym (get_is xs n 0 (omega (arith, long))) ∙ sym (ap (slice_get xs) e) ∙ last)

-- the least and the greatest are one
pub one_element : (xs : List ℕ) (x : ℕ) → IsStrictlyIncreasing xs → slice_get xs 0 ≡ Some x → slice_get xs (length xs - 1) ≡ Some x → xs ≡ x ∷ []
one_element [] x up first last = absurd (cc first)
one_element (y ∷ []) x up first last = ap (λ (v : ℕ). v ∷ []) (same_Some y x first)
one_element (y ∷ z ∷ zs) x up first last =
    let more : y < get_or (y ∷ z ∷ zs) (suc (length zs)) 0 = above_first (y ∷ z ∷ zs) (length zs) up (omega arith) in
    let is : get_or (y ∷ z ∷ zs) (suc (length zs)) 0 ≡ x = last_place (y ∷ z ∷ zs) x (suc (length zs)) refl last in
    absurd (omega (arith, more, is, same_Some y x first))

pub not_one : (xs : List ℕ) (a b : ℕ) → slice_get xs 0 ≡ Some a → slice_get xs (length xs - 1) ≡ Some b → a ≢ b → length xs ≢ 1
not_one [] a b first last differ one_long = omega (arith, one_long)
not_one (y ∷ []) a b first last differ one_long = differ (sym (same_Some y a first) ∙ last_place (y ∷ []) b 0 refl last)
not_one (y ∷ z ∷ zs) a b first last differ one_long = omega (arith, one_long)

pub first_missing : (xs : List ℕ) → slice_get xs 0 ≡ None → length xs ≢ 1
first_missing [] none one_long = omega (arith, one_long)
first_missing (x ∷ xs) none one_long = cc none

pub last_missing : (xs : List ℕ) → slice_get xs (length xs - 1) ≡ None → length xs ≢ 1
last_missing [] none one_long = omega (arith, one_long)
last_missing (x ∷ []) none one_long = cc none
last_missing (x ∷ y ∷ ys) none one_long = omega (arith, one_long)

-- ---- the same of pieces

pub only_is : (ps : List Piece) (a b : ℕ) → IsFirstFrom (holds ps) 0 (Some a) → IsLast (holds ps) (Some b) → a ≡ b → elements_of (holds ps) ≡ a ∷ []
only_is ps a b first last same = one_element (elements_of (holds ps)) a (ascending (holds ps)) (first_of_all ps (Some a) first) (last_of_all ps (Some b) last ∙ ap Some (sym same))

pub not_only : (ps : List Piece) (a b : ℕ) → IsFirstFrom (holds ps) 0 (Some a) → IsLast (holds ps) (Some b) → a ≢ b → length (elements_of (holds ps)) ≢ 1
not_only ps a b first last differ = not_one (elements_of (holds ps)) a b (first_of_all ps (Some a) first) (last_of_all ps (Some b) last) differ

pub none_first : (ps : List Piece) → IsFirstFrom (holds ps) 0 None → length (elements_of (holds ps)) ≢ 1
none_first ps none = first_missing (elements_of (holds ps)) (first_of_all ps None none)

pub none_last : (ps : List Piece) → IsLast (holds ps) None → length (elements_of (holds ps)) ≢ 1
none_last ps none = last_missing (elements_of (holds ps)) (last_of_all ps None none)
