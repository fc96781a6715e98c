use Rattle.set_pieces.specs.Internal.Runs.{in_run}
use Rattle.set_pieces.proofs.Spans.{from_ends}
use Rattle.set_pieces.proofs.run.Run.span.Goals as goal

pub returns-clause-ends : goal.returns-clause-ends
returns-clause-ends c = from_ends (in_run c.args.self) c.in_ok-low.low c.in_ok-high.high c.in_ok-low.ensures c.in_ok-high.ensures
