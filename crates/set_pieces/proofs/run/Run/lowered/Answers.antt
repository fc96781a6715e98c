use Rattle.set_pieces.specs.Internal.Patterns.{matches}
use Rattle.set_pieces.specs.Internal.Runs.{in_run}
use Rattle.set_pieces.proofs.Pieces.{lowered_is}
use Rattle.set_pieces.proofs.run.Run.lowered.Goals as goal

pub returns : goal.returns
unfolding in_run
returns c = λ y. lowered_is (matches c.args.self.pattern) (matches c.lowered.result) c.args.self.low c.args.self.high c.args.distance y c.requires.above c.args.self.ordered (c.lowered.ensures y)
