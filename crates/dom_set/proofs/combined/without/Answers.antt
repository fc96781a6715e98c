use Rattle.std.proofs.Common.{arith}
use Rattle.set_pieces.specs.Internal.Pieces.{in_piece}
use Rattle.set_pieces.proofs.Times.{times_done, none_less}
use Rattle.dom_set.proofs.combined.without.Goals as goal

pub returns : goal.returns
returns c = λ x.
    omega (
      arith,
      c.loop-p.invariant x,
      none_less (in_piece c.args.q x) _ (times_done c.args.pieces.now c.loop-p.p-index x c.loop-p-test.false),
    )
