use Rattle.std.proofs.Common.{Bool, ◌&&◌, not, sym, ap, ◌∙◌}
use Rattle.set_pieces.specs.Internal.Patterns.{is_matched}
use Rattle.set_pieces.specs.Internal.Pieces.{in_piece}
use Rattle.set_pieces.proofs.piece.Piece.has.Goals as goal

pub returns-then-has : goal.returns-then-has
unfolding in_piece
returns-then-has c = ap not c.is_missing.ensures ∙ ap (λ (b : Bool). b && not (is_matched c.args.self.hole c.args.x)) (sym c.if-has.true ∙ c.has.ensures)

pub returns-else-has : goal.returns-else-has
unfolding in_piece
returns-else-has c = c.if-has.false ∙ ap (λ (b : Bool). b && not (is_matched c.args.self.hole c.args.x)) (sym c.if-has.false ∙ c.has.ensures)
