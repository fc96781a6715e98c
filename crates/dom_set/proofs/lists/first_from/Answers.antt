use Rattle.std.proofs.Common.{ℕ, ◌+◌, ◌||◌, Bool, take, sym, ap, ◌∙◌}
use Rattle.std.proofs.lemmas.List.Folds.{list_any_more}
use Rattle.set_pieces.specs.declared.piece.Piece.{Piece}
use Rattle.set_pieces.specs.Internal.Pieces.{in_piece, holds}
use Rattle.set_pieces.proofs.Unmatched.{first_same}
use Rattle.dom_set.proofs.lists.first_from.Goals as goal

pub loop-p-preserved : goal.loop-p-preserved
loop-p-preserved c =
    let before : ℕ → Bool = holds (take c.loop-p.p-index c.args.pieces.now) in
    first_same (λ x. before x || in_piece c.p-item.result x) (holds (take (c.loop-p.p-index + 1) c.args.pieces.now)) c.args.from c.nearer-nearest.result
    (λ x. ap (λ (q : Piece). before x || in_piece q x) c.p-item.is ∙ sym (list_any_more (λ q. in_piece q x) c.args.pieces.now c.loop-p.p-index c.p-item.result c.loop-p-test.true))
    (c.nearer-nearest.ensures before c.loop-p.invariant)
