-- Pieces of multiples of one step, joined and kept apart.
use Rattle.std.proofs.Common.{◌≡◌, ℕ, suc, ◌+◌, ◌-◌, ◌%◌, ◌^◌, ◌<◌, ◌≤◌, inl, inr, Bool, true, false, ◌&&◌, ◌||◌, eqb, leb, max, List, [], ◌∷◌, length, get_or, take, drop, refl, sym, ap, ◌∙◌, arith}
use Rattle.std.proofs.lemmas.Bool.{cases_lt, eqb-true, or_cases, or_left, or_right, or_from, false_from_ne_true}
use Rattle.std.proofs.lemmas.Nat.{and_mask}
use Rattle.std.proofs.lemmas.List.{take_rest, drop_more}
use Rattle.std.proofs.lemmas.List.Folds.{list_any_more}
use Rattle.dom_set.specs.Elements.{is_within}
use Rattle.set_pieces.specs.declared.pattern.Pattern.{Pattern}
use Rattle.set_pieces.specs.declared.piece.Piece.{Piece}
use Rattle.set_pieces.specs.Counting.{one}
use Rattle.set_pieces.specs.Internal.Patterns.{matches}
use Rattle.set_pieces.specs.Internal.Pieces.{in_piece, holds}
use Rattle.set_pieces.proofs.Without.{in_ends}
use Rattle.set_pieces.proofs.Low.{same_tests, gap}
use Rattle.set_pieces.proofs.Pieces.{test, passes, test_from}

-- the pattern of the multiples of a power of two
pub multiple_is : (shift : ℕ) (p : Pattern) (x : ℕ) → p.mask ≡ 2 ^ shift - 1 → p.bits ≡ 0 → matches p x ≡ eqb (x % 2 ^ shift) 0
unfolding matches
multiple_is shift p x mask bits = rw (mask, bits) (ap (λ (n : ℕ). eqb n 0) (and_mask x shift))

abbrev multiple : ℕ → ℕ → Bool
multiple s x = eqb (x % s) 0

pub joined_is : (s low high low' high' x : ℕ) → 0 < s → low % s ≡ 0 → high % s ≡ 0 → low ≤ high → low ≤ low' → low' ≤ high + s →
    test (multiple s) low (max high high') x ≡ (test (multiple s) low high x || test (multiple s) low' high' x)
joined_is s low high low' high' x pos l h ordered after touching = same_tests _ _
    (λ t. let p = passes (multiple s) low (max high high') x t in
    elim (cases_lt high x) [
      | inr within ↦ or_left _ _ (test_from (multiple s) low high x (record { above = p.above; below = within; matched = p.matched }))
      | inl past ↦ (
          let far : high + s ≤ x = gap s high x pos (h ∙ sym (eqb-true _ _ p.matched)) past in
          or_right _ _ (test_from (multiple s) low' high' x (record { above = omega arith; below = omega (arith, p.below); matched = p.matched }))
          )
    ])
    (λ t. elim (or_cases (test (multiple s) low high x) (test (multiple s) low' high' x) t) [
      | inl here ↦ (let p = passes (multiple s) low high x here in
          test_from (multiple s) low (max high high') x (record { above = p.above; below = omega (arith, p.below); matched = p.matched }))
      | inr there ↦ (let p = passes (multiple s) low' high' x there in
          test_from (multiple s) low (max high high') x (record { above = omega (arith, p.above); below = omega (arith, p.below); matched = p.matched }))
    ])

-- a number below the first is not held
pub below_first : (p : Piece) (x : ℕ) → x < p.run.low → in_piece p x ≡ false
below_first p x lt = false_from_ne_true _ (λ h. omega (arith, (in_ends p x h).0))

pub up_to_last : (p : Piece) (x : ℕ) → in_piece p x ≡ true → x ≤ p.run.high
up_to_last p x h = (in_ends p x h).1

pub holds_above : (ps : List Piece) (x : ℕ) → ((k : ℕ) (d : Piece) → k < length ps → x < (get_or ps k d).run.low) → holds ps x ≡ false
holds_above [] x h = refl
holds_above (p ∷ ps) x h = or_from _ _ (below_first p x (h 0 p (omega arith))) (holds_above ps x (λ k d lt. h (suc k) d (omega arith)))

one_or : (a b : Bool) → (a ≡ true → b ≡ false) → one (a || b) ≡ one a + one b
one_or true b h = ap (λ (t : Bool). 1 + one t) (sym (h refl))
one_or false b h = omega arith

-- a piece that ends before the next begins shares nothing with what follows
pub apart_from_rest : (open' q : Piece) (rest : List Piece) (x : ℕ) → open'.run.high < q.run.low →
    ((k : ℕ) (d : Piece) → k < length rest → q.run.low ≤ (get_or rest k d).run.low) →
    one (in_piece open' x || (in_piece q x || holds rest x)) ≡ one (in_piece open' x) + one (in_piece q x || holds rest x)
apart_from_rest open' q rest x before sorted = one_or _ _ (λ h.
    let at = up_to_last open' x h in
    or_from _ _ (below_first q x (omega arith)) (holds_above rest x (λ k d lt. omega (arith, sorted k d lt))))

pub or_regroup : (a b c : Bool) → ((a || b) || c) ≡ (a || (b || c))
or_regroup true b c = refl
or_regroup false b c = refl

pub front_is : (ps : List Piece) (p : Piece) → 1 ≤ length ps → p ≡ get_or ps 0 p → p ∷ take (length ps - 1) (drop 1 ps) ≡ ps
front_is ps p some is = (λ i. is i ∷ take_rest ps 1 i) ∙ sym (drop_more ps 0 p some)

and_or : (a b c : Bool) → ((a && b) || (a && c)) ≡ (a && (b || c))
and_or true b c = refl
and_or false b c = refl

pub within_more : (ps : List (ℕ × ℕ)) (i : ℕ) (d : ℕ × ℕ) (a : Bool) (x : ℕ) → i < length ps →
    ((a && is_within (take i ps) x) || (a && (leb (get_or ps i d).0 x && leb x (get_or ps i d).1))) ≡ (a && is_within (take (i + 1) ps) x)
within_more ps i d a x lt =
    and_or a (is_within (take i ps) x) _ ∙ ap (λ (b : Bool). a && b) (sym (list_any_more (λ r. leb r.0 x && leb x r.1) ps i d lt))

pub no_more : (a : Bool) → (a || false) ≡ a
no_more true = refl
no_more false = refl
