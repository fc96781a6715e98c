use Rattle.std.proofs.Common.{ap, arith}
use Rattle.set_pieces.specs.Counting.{one}
use Rattle.set_pieces.specs.Internal.Runs.{is_in_run}
use Rattle.set_pieces.proofs.Without.{less_parts}
use Rattle.set_pieces.proofs.parts.push_less.Goals as goal

pub returns : goal.returns
returns c = λ x. omega (
  arith,
  c.in_ok-push_piece.ensures x,
  ap one (c.common_part.ensures x),
  c.in_ok-push_outside.ensures x,
  less_parts c.args.p c.args.q x (is_in_run c.filled.result x) (c.filled.ensures x),
)
