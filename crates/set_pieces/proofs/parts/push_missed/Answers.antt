use Rattle.std.proofs.Common.{◌≡◌, ◌+◌, Bool, ◌&&◌, ap, arith}
use Rattle.set_pieces.specs.Counting.{one}
use Rattle.set_pieces.specs.Internal.Patterns.{matches_below}
use Rattle.set_pieces.specs.Internal.Pieces.{in_piece}
use Rattle.set_pieces.proofs.Pieces.{and_all, next_part, matches_fewer}
use Rattle.set_pieces.proofs.parts.push_missed.Goals as goal

pub loop-bit-init : goal.loop-bit-init
loop-bit-init c = λ x.
    omega (
      arith,
      ap (λ (b : Bool). one ((in_piece c.args.p x) && b)) (c.ends.ensures.none x),
      ap one (and_all (in_piece c.args.p x)),
    )

pub loop-bit-preserved : goal.loop-bit-preserved
loop-bit-preserved c = λ x.
    omega (
      arith,
      c.loop-bit.invariant x,
      c.in_ok-push_piece.ensures x,
      ap one (c.missed.ensures x),
      next_part (in_piece c.args.p x) (matches_below c.args.pattern c.loop-bit.bit x) (matches_below c.args.pattern (c.loop-bit.bit + 1) x) (matches_fewer c.args.pattern c.loop-bit.bit x),
    )

pub returns : goal.returns
returns c = λ x.
    let is : c.loop-bit.bit ≡ 32 = omega arith in
    omega (
      arith,
      c.loop-bit.invariant x,
      ap (λ n. one ((in_piece c.args.p x) && matches_below c.args.pattern n x)) is,
      ap (λ (b : Bool). one ((in_piece c.args.p x) && b)) (c.ends.ensures.all x),
    )
