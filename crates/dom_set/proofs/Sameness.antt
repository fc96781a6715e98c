-- Lists of pieces that hold the same numbers.
use Rattle.std.specs.Option.{option_eq}
use Rattle.set_pieces.specs.declared.pattern.Pattern.{Pattern}
use Rattle.std.proofs.Common.{Option, Some, None, ◌≡◌, ℕ, ◌+◌, ◌*◌, ◌^◌, ◌<◌, ◌≤◌, inl, inr, Bool, true, leb, List, [], ◌∷◌, refl, sym, ap, ◌∙◌, arith}
use Rattle.std.specs.Cmp.Lexicographic.{pointwise}
use Rattle.std.proofs.lemmas.Bool.{cases_lt, and_parts, false≢true}
use Rattle.set_pieces.specs.declared.piece.Piece.{Piece}
use Rattle.dom_set.specs.Elements.{elements_of, is_in}
use Rattle.set_pieces.specs.Counting.{one, total}
use Rattle.set_pieces.specs.Internal.Patterns.{matches, is_matched}
use Rattle.set_pieces.specs.Internal.Runs.{in_run}
use Rattle.set_pieces.specs.Internal.Pieces.{in_piece, holds, times, IsApart}
use Rattle.set_pieces.proofs.Totals.{total_same, total_equal}
use Rattle.set_pieces.proofs.Times.{holds_is, times_is}
use Rattle.dom_set.proofs.Sets.{elements_same, is_in-elements}

pub same_fields : (p q : Piece) (x : ℕ) → p.run.low ≡ q.run.low → p.run.high ≡ q.run.high → p.run.pattern.mask ≡ q.run.pattern.mask → p.run.pattern.bits ≡ q.run.pattern.bits → is_matched p.hole x ≡ is_matched q.hole x → in_piece p x ≡ in_piece q x
unfolding in_piece in_run matches
same_fields p q x low high mask bits hole = rw (low, high, mask, bits, hole) refl

-- patterns that are the same where they are compared
same_pattern : (p q : Pattern) (x : ℕ) → p.mask ≡ q.mask → p.bits ≡ q.bits → matches p x ≡ matches q x
unfolding matches
same_pattern p q x mask bits = rw (mask, bits) refl

pub same_holes : (E : Pattern → Pattern → Bool) (a b : Option Pattern) (x : ℕ) → ((p q : Pattern) → E p q ≡ true → (p.mask ≡ q.mask) × (p.bits ≡ q.bits)) → option_eq E a b ≡ true → is_matched a x ≡ is_matched b x
same_holes E None None x each h = refl
same_holes E None (Some q) x each h = absurd (false≢true h)
same_holes E (Some p) None x each h = absurd (false≢true h)
same_holes E (Some p) (Some q) x each h = let same = each p q h in same_pattern p q x same.0 same.1

pub same_by_place : (E : Piece → Piece → Bool) (ps qs : List Piece) → pointwise E ps qs ≡ true →
    ((p q : Piece) → E p q ≡ true → (x : ℕ) → in_piece p x ≡ in_piece q x) → (x : ℕ) → times ps x ≡ times qs x
same_by_place E [] [] h each x = refl
same_by_place E [] (q ∷ qs) h each x = absurd (false≢true h)
same_by_place E (p ∷ ps) [] h each x = absurd (false≢true h)
same_by_place E (p ∷ ps) (q ∷ qs) h each x =
    let parts = and_parts (E p q) (pointwise E ps qs) h in
    λ i. one (each p q parts.0 x i) + same_by_place E ps qs parts.1 each x i

product_le_left : (a b : ℕ) → b ≤ 1 → a * b ≤ a
product_le_left a b le = elim (cases_lt b 1) [
  | inl none ↦ (let e : b ≡ 0 = omega arith in rw e (omega arith))
  | inr some ↦ (let e : b ≡ 1 = omega arith in rw e (omega arith))
]

product_le_right : (a b : ℕ) → a ≤ 1 → a * b ≤ b
product_le_right a b le = elim (cases_lt a 1) [
  | inl none ↦ (let e : a ≡ 0 = omega arith in rw e (omega arith))
  | inr some ↦ (let e : a ≡ 1 = omega arith in rw e (omega arith))
]

square : (a : ℕ) → a ≤ 1 → a * a ≡ a
square a le = elim (cases_lt a 1) [
  | inl none ↦ (let e : a ≡ 0 = omega arith in rw e refl)
  | inr some ↦ (let e : a ≡ 1 = omega arith in rw e refl)
]

-- as many common numbers as either has: they are the same
pub same_from_counts : (ps qs : List Piece) (n : ℕ) → IsApart ps → IsApart qs →
    total (times ps) n ≡ total (times qs) n → total (times ps) n ≡ total (λ x. times ps x * times qs x) n →
    (x : ℕ) → x < n → times ps x ≡ times qs x
same_from_counts ps qs n a b sizes common x lt =
    let left = total_equal (λ x. times ps x * times qs x) (times ps) n (λ x. product_le_left (times ps x) (times qs x) (b x)) (sym common) x lt in
    let right = total_equal (λ x. times ps x * times qs x) (times qs) n (λ x. product_le_right (times ps x) (times qs x) (a x)) (sym common ∙ sizes) x lt in
    sym left ∙ right

pub sizes_from_same : (ps qs : List Piece) (n : ℕ) → ((x : ℕ) → x < n → times ps x ≡ times qs x) → total (times ps) n ≡ total (times qs) n
sizes_from_same ps qs n h = total_same (times ps) (times qs) n h

pub common_from_same : (ps qs : List Piece) (n : ℕ) → IsApart ps → ((x : ℕ) → x < n → times ps x ≡ times qs x) →
    total (times ps) n ≡ total (λ x. times ps x * times qs x) n
common_from_same ps qs n a h = total_same (times ps) (λ x. times ps x * times qs x) n
    (λ x lt. sym (square (times ps x) (a x)) ∙ ap (λ (t : ℕ). times ps x * t) (h x lt))

pub same_elements : (ps qs : List Piece) → ((x : ℕ) → x < 2 ^ 32 → times ps x ≡ times qs x) → elements_of (holds ps) ≡ elements_of (holds qs)
same_elements ps qs h = elements_same (holds ps) (holds qs) (λ x lt. holds_is ps x ∙ ap (λ (n : ℕ). leb 1 n) (h x lt) ∙ sym (holds_is qs x))

pub same_times : (ps qs : List Piece) → IsApart ps → IsApart qs → elements_of (holds ps) ≡ elements_of (holds qs) →
    (x : ℕ) → x < 2 ^ 32 → times ps x ≡ times qs x
same_times ps qs a b h x lt =
    times_is ps x a
    ∙ ap one (sym (is_in-elements (holds ps) x lt) ∙ ap (λ (xs : List ℕ). is_in xs x) h ∙ is_in-elements (holds qs) x lt)
    ∙ sym (times_is qs x b)
