use Rattle.std.proofs.Common.{arith}
use Rattle.set_pieces.specs.Internal.Pieces.{times}
use Rattle.set_pieces.proofs.Times.{either_once}
use Rattle.dom_set.proofs.combined.either.Goals as goal

pub returns : goal.returns
returns c = λ x. omega (arith, c.put_in_order.ensures x, c.in_ok-push_all.ensures x, c.in_ok-out.ensures x, either_once c.args.pieces.now (times c.args.others.now x) x)
