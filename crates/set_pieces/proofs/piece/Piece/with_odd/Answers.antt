use Rattle.std.proofs.Common.{◌-◌, ◌%◌, Bool, ◌&&◌, not, ap, ◌∙◌}
use Rattle.set_pieces.specs.Internal.Patterns.{is_matched}
use Rattle.set_pieces.specs.Internal.Pieces.{in_piece}
use Rattle.set_pieces.proofs.piece.Piece.with_odd.Goals as goal

pub returns-in-Some : goal.returns-in-Some
unfolding in_piece
returns-in-Some c = λ x lt. c.of.ensures x ∙ (λ i. c.in-Some.ensures.held x lt i && not (c.odd_hole.ensures x i))

pub returns-in-None : goal.returns-in-None
unfolding in_piece
returns-in-None c = λ x lt. ap (λ (b : Bool). b && not (is_matched c.args.self.hole (x - x % 2))) (c.in-None.ensures.held x lt)
