use Rattle.std.proofs.Common.{List, cond, ap, ◌∙◌, arith}
use Rattle.set_pieces.specs.declared.piece.Piece.{Piece}
use Rattle.set_pieces.specs.Counting.{one}
use Rattle.set_pieces.specs.Internal.Pieces.{in_piece, holds, times}
use Rattle.dom_set.proofs.Walks.{left_alive, left_within, none_left, parts_left}
use Rattle.dom_set.proofs.combined.minus.Goals as goal

pub push_left-requires-clause-within : goal.push_left-requires-clause-within
push_left-requires-clause-within c = λ x. left_within (holds c.deref.result.now x) (in_piece c.p-item.result x) (times c.in_ok-left.left.items x) (c.in_ok-left.ensures x)

pub loop-p-preserved : goal.loop-p-preserved
loop-p-preserved c = record {
  left = λ x. omega (
    arith,
    c.loop-p.invariant.left x,
    c.in_ok-push_left.ensures x,
    left_alive c.p-item.result c.args.others.now c.next_place.new.alive.items c.in_ok-place.place (times c.in_ok-left.left.items x) x c.in_ok-place.ensures
        (c.in_ok-left.ensures x ∙ ap (λ (ps : List Piece). cond (holds ps x) 0 (one (in_piece c.p-item.result x))) c.deref.ensures.value),
    parts_left c.args.pieces.now c.args.others.now c.loop-p.p-index c.p-item.result x c.loop-p-test.true c.p-item.is,
  );
  alive = c.in_ok-place.ensures;
}

pub returns : goal.returns
returns c = λ x. omega (arith, c.put_in_order.ensures x, c.loop-p.invariant.left x, none_left c.args.pieces.now c.args.others.now c.loop-p.p-index x c.loop-p-test.false)
