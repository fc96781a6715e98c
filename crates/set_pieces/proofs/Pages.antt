-- The pages of 4,096 numbers in which pieces have numbers, and pieces whose ends tell that they have none in common.
use Rattle.std.proofs.Common.{◌≡◌, ℕ, ◌+◌, ◌*◌, ◌/◌, ◌%◌, ◌^◌, ◌<◌, ◌≤◌, Bool, false, ◌&&◌, leb, bit_and, List, sym, ap, ◌∙◌, arith}
use Rattle.std.proofs.lemmas.Bool.{eq-eqb}
use Rattle.std.proofs.lemmas.Bool.Decides.{nat_tests}
use Rattle.std.proofs.Common.{length, get_or}
use Rattle.std.proofs.lemmas.List.Folds.{list_any_at}
use Rattle.std.proofs.lemmas.Nat.{and_le_r}
use Rattle.std.specs.Int.Bits.{and_zero_r}
use Rattle.set_pieces.specs.declared.piece.Piece.{Piece}
use Rattle.set_pieces.specs.declared.run.Run.{Run}
use Rattle.set_pieces.specs.Internal.Patterns.{matches}
use Rattle.set_pieces.specs.Internal.Pieces.{in_piece, holds}
use Rattle.set_pieces.specs.Internal.Runs.{in_run}
use Rattle.set_pieces.specs.Ends.{HasPage}
use Rattle.set_pieces.proofs.Masks.{and_above}
use Rattle.set_pieces.proofs.Pieces.{test_from}

-- one piece ends before the other begins
pub before_other : (a b : Bool) (low high first last x : ℕ) → high < first → false ≡ (((leb low x && leb x high) && a) && ((leb first x && leb x last) && b))
before_other a b low high first last x h = grind (arith, nat_tests)

pub after_other : (a b : Bool) (low high first last x : ℕ) → last < low → false ≡ (((leb low x && leb x high) && a) && ((leb first x && leb x last) && b))
after_other a b low high first last x h = grind (arith, nat_tests)

-- it ends before the number
pub past_end : (a : Bool) (low high x : ℕ) → high < x → ((leb low x && leb x high) && a) ≡ false
past_end a low high x h = grind (arith, nat_tests)

-- bits below the pages' own are those of a number of each page
page_bits : (m b q : ℕ) → m < 4096 → bit_and b m ≡ b → bit_and (q * 4096 + b) m ≡ b
page_bits m b q small within =
    let below : b < 4096 = omega (arith, ap (λ (n : ℕ). n) (sym within), and_le_r b m) in
    let whole : (q * 4096 + b) / 2 ^ 12 ≡ q = omega (arith, below) in
    let part : (q * 4096 + b) % 2 ^ 12 ≡ b = omega (arith, below) in
    let mask : m ≡ 0 * 2 ^ 12 + m = omega arith in
    let split : bit_and (q * 4096 + b) m ≡ 0 * 2 ^ 12 + bit_and b m =
    ap (λ (n : ℕ). bit_and (q * 4096 + b) n) mask ∙ and_above (q * 4096 + b) 0 m 12 small ∙ (λ i. and_zero_r (whole i) i * 2 ^ 12 + bit_and (part i) m) in
    omega (arith, split, within)

bits_below : (m b : ℕ) → m < 4096 → bit_and b m ≡ b → b < 4096
bits_below m b small within = omega (arith, sym within, and_le_r b m)

-- a run whose pattern tells bits below the pages' own alone has a number of each page between its ends
pub page_held : (p : Run) (page q : ℕ) → p.pattern.mask < 4096 → p.low ≤ page * 4096 → page ≤ q → q < p.high / 4096 → HasPage (in_run p) q
unfolding in_run matches
page_held p page q small low from before =
    let b = p.pattern.bits in
    let below : b < 4096 = bits_below p.pattern.mask b small p.pattern.within in (
      q * 4096 + b,
      test_from (matches p.pattern) p.low p.high (q * 4096 + b)
          (record { above = omega (arith, low, from); below = omega (arith, before, below); matched = eq-eqb (bit_and (q * 4096 + b) p.pattern.mask) b (page_bits p.pattern.mask b q small p.pattern.within) }),
      omega (arith, below),
    )

-- what one piece of a list holds the list holds
pub one_holds : (ps : List Piece) (i : ℕ) (p : Piece) (q : ℕ) → i < length ps → get_or ps i p ≡ p → HasPage (in_piece p) q → HasPage (holds ps) q
one_holds ps i p q lt is (y, h, e) = (y, list_any_at (λ r. in_piece r y) ps i p lt (ap (λ (r : Piece). in_piece r y) is ∙ h), e)
