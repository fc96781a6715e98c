use Rattle.set_pieces.specs.Internal.Pieces.{in_piece}
use Rattle.set_pieces.specs.Internal.Runs.{in_run}
use Rattle.set_pieces.proofs.Pieces.{and_all}
use Rattle.set_pieces.proofs.piece.Piece.whole.Goals as goal

pub returns-clause-held : goal.returns-clause-held
unfolding in_piece
returns-clause-held c = λ x. and_all (in_run c.args.run x)
