use Rattle.std.proofs.Common.{Bool, ◌&&◌, not, ap, ◌∙◌}
use Rattle.set_pieces.specs.Internal.Patterns.{is_matched}
use Rattle.set_pieces.specs.Internal.Runs.{in_run}
use Rattle.set_pieces.specs.Internal.Pieces.{in_piece}
use Rattle.set_pieces.proofs.Without.{swapped, none_swapped}
use Rattle.set_pieces.proofs.piece.Piece.clipped.Goals as goal

pub returns-in-Some : goal.returns-in-Some
unfolding in_piece
returns-in-Some c = λ x. c.of.ensures x ∙ ap (λ (b : Bool). b && not (is_matched c.args.self.hole x)) (c.in-Some.ensures.held x) ∙ swapped (in_run c.args.self.run x) _ _

pub returns-in-None : goal.returns-in-None
unfolding in_piece
returns-in-None c = λ x. none_swapped (in_run c.args.self.run x) _ (not (is_matched c.args.self.hole x)) (c.in-None.ensures.held x)
