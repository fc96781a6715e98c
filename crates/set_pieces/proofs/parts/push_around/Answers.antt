use Rattle.std.proofs.Common.{◌≡◌, Bool, ◌&&◌, ap, ◌∙◌, arith}
use Rattle.set_pieces.specs.Counting.{one}
use Rattle.set_pieces.specs.Internal.Patterns.{matches}
use Rattle.set_pieces.specs.Internal.Runs.{in_span, in_run}
use Rattle.set_pieces.specs.Internal.Pieces.{in_piece, is_held}
use Rattle.set_pieces.proofs.Pieces.{two_parts, three_parts}
use Rattle.set_pieces.proofs.Times.{word_held}
use Rattle.set_pieces.proofs.Without.{span_is}
use Rattle.set_pieces.proofs.parts.push_around.Goals as goal

pub returns : goal.returns
unfolding in_run
returns c = λ x.
    let q = c.args.q in
    let part : is_held c.clipped-2.result x ≡ (in_piece c.args.p x && in_span q x) = rw (c.from-low.ensures, c.from.ensures) at (c.clipped-2.ensures x) ∙ span_is (in_piece c.args.p x) q.low q.high x in
    omega (
      arith,
      c.in_ok-push_piece-2.ensures x,
      c.in_ok-push_part_unmatched.ensures x,
      c.in_ok-push_piece.ensures x,
      ap one (rw c.from-low.ensures at c.clipped.ensures x),
      ap one (rw c.from.ensures at c.clipped-3.ensures x),
      ap one part,
      ap (λ (b : Bool). one (b && matches q.pattern x)) part,
      three_parts (in_piece c.args.p x) x q.low q.high (word_held c.args.p x) q.ordered,
      two_parts (in_piece c.args.p x) (in_span q x) (matches q.pattern x),
    )
