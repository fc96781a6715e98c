use Rattle.set_pieces.specs.Internal.Pieces.{in_piece}
use Rattle.set_pieces.proofs.Spans.{from_ends}
use Rattle.set_pieces.proofs.piece.Piece.span.Goals as goal

pub returns-clause-ends : goal.returns-clause-ends
returns-clause-ends c = from_ends (in_piece c.args.self) c.in_ok-low.low c.in_ok-high.high c.in_ok-low.ensures c.in_ok-high.ensures
