use Rattle.std.proofs.Common.{List, [], ◌∷◌, ◌++◌, cond, sym, ap, ◌∙◌}
use Rattle.set_pieces.specs.declared.piece.Piece.{Piece}
use Rattle.set_pieces.specs.Internal.Pieces.{in_piece, times}
use Rattle.dom_set.proofs.Walks.{left_first, left_next, left_done}
use Rattle.dom_set.proofs.combined.left_of.Goals as goal

pub loop-q-init : goal.loop-q-init
loop-q-init c = λ x. left_first c.args.p c.args.others.now c.push.new.self.items x
    (c.in_ok-push.ensures.items ∙ ap (λ (ps : List Piece). ps ++ c.args.p ∷ []) c.new-left.ensures.items)

pub loop-q-preserved : goal.loop-q-preserved
loop-q-preserved c = λ x. left_next c.args.others.now c.loop-q.q-index c.q-item.result (times c.loop-q.left.items x) (times c.in_ok-left.left.items x) x c.loop-q-test.true c.q-item.is
    (c.in_ok-left.ensures x ∙ ap (λ (ps : List Piece). cond (in_piece c.q-item.result x) 0 (times ps x)) c.deref.ensures.value)
    ∙ c.loop-q.invariant x

pub returns : goal.returns
returns c = λ x. sym (left_done c.args.others.now c.loop-q.q-index (times c.loop-q.left.items x) x c.loop-q-test.false) ∙ c.loop-q.invariant x
