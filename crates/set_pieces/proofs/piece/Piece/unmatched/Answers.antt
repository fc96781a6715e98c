use Rattle.std.proofs.Common.{◌∙◌}
use Rattle.set_pieces.proofs.Without.{hole_within, no_hole}
use Rattle.set_pieces.proofs.piece.Piece.unmatched.Goals as goal

pub returns-in-Some : goal.returns-in-Some
returns-in-Some c = λ x. c.less.ensures x ∙ hole_within c.args.run x _ _ (c.in-Some.ensures x)

pub returns-in-None : goal.returns-in-None
returns-in-None c = λ x. c.whole.ensures.held x ∙ no_hole c.args.run x _ (c.in-None.ensures x)
