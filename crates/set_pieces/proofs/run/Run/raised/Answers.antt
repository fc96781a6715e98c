use Rattle.set_pieces.specs.Internal.Patterns.{matches}
use Rattle.set_pieces.specs.Internal.Runs.{in_run}
use Rattle.set_pieces.proofs.Pieces.{raised_is}
use Rattle.set_pieces.proofs.run.Run.raised.Goals as goal

pub returns : goal.returns
unfolding in_run
returns c = λ y. raised_is (matches c.args.self.pattern) (matches c.raised.result) c.args.self.low c.args.self.high c.args.distance y c.raised.ensures
