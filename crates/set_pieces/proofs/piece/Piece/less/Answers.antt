use Rattle.std.proofs.Common.{sym, refl, arith}
use Rattle.set_pieces.specs.Internal.Pieces.{in_piece}
use Rattle.set_pieces.proofs.piece.Piece.less.Goals as goal

pub returns-in-None : goal.returns-in-None
unfolding in_piece
returns-in-None c = λ x. sym (c.in-None.ensures x (omega arith))

pub returns-in-Some : goal.returns-in-Some
unfolding in_piece
returns-in-Some c = λ x. refl
