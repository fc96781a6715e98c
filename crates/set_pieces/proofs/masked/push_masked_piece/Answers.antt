use Rattle.std.proofs.Common.{◌≡◌, ℕ, ◌+◌, ◌&&◌, not, false, leb, ltb, bit_and, Bool, sym, ap, ◌∙◌, arith}
use Rattle.std.proofs.lemmas.Nat.{and_le_r}
use Rattle.set_pieces.specs.Counting.{one}
use Rattle.set_pieces.specs.Internal.Patterns.{matches, is_matched}
use Rattle.set_pieces.specs.Internal.Runs.{in_run}
use Rattle.set_pieces.specs.Internal.Pieces.{in_piece, times}
use Rattle.set_pieces.proofs.Masking.{and_third}
use Rattle.set_pieces.proofs.Without.{outside}
use Rattle.set_pieces.proofs.masked.push_masked_piece.Goals as goal

pub returns-in_ok-push_masked_range-in-Some : goal.returns-in_ok-push_masked_range-in-Some
unfolding in_piece
returns-in_ok-push_masked_range-in-Some c = λ x lt.
    let p = c.args.p in
    let y : ℕ = bit_and x c.args.mask in
    let held : in_run p.run y ≡ ((leb c.in-Some.low y && ltb y c.in-Some.end) && matches p.run.pattern y) =
    rw (c.in-Some.low-is, c.in-Some.end-is) (c.in-Some.ensures.held y (and_le_r x c.args.mask)) in
    c.in_ok-push_masked_range-in-Some.ensures x lt
    ∙ ap (λ (b : Bool). times c.args.out.now.items x + one b)
    (sym (and_third (leb c.in-Some.low y && ltb y c.in-Some.end) (matches p.run.pattern y) (not (is_matched p.hole y)))
    ∙ ap (λ (b : Bool). b && not (is_matched p.hole y)) (sym held))

pub returns-in-None : goal.returns-in-None
returns-in-None c = λ x lt.
    let y : ℕ = bit_and x c.args.mask in
    let none : in_piece c.args.p y ≡ false = outside c.args.p y (c.in-None.ensures.held y (and_le_r x c.args.mask)) in
    omega (arith, ap one none)
