use Rattle.set_pieces.specs.Internal.Patterns.{matches}
use Rattle.set_pieces.specs.Internal.Runs.{in_run}
use Rattle.set_pieces.proofs.Pieces.{passes}
use Rattle.set_pieces.proofs.Spans.{tightened}
use Rattle.set_pieces.proofs.run.Run.tightened.Goals as goal

pub between-requires-clause-matching : goal.between-requires-clause-matching
unfolding in_run
between-requires-clause-matching c = (passes (matches c.args.self.pattern) c.args.self.low c.args.self.high c.in_ok-low.low c.in_ok-low.ensures.0).matched

pub returns : goal.returns
unfolding in_run
returns c = tightened c.args.self c.between.result c.in_ok-low.low c.in_ok-high.high c.in_ok-low.ensures c.in_ok-high.ensures c.between.ensures.same
