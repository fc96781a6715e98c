use Rattle.std.proofs.Common.{List, ◌+◌, cond, drop, ap, ◌∙◌, arith}
use Rattle.set_pieces.specs.declared.piece.Piece.{Piece}
use Rattle.set_pieces.specs.Internal.Pieces.{in_piece, times}
use Rattle.dom_set.proofs.Walks.{begun, left_apart, left_behind, rest_none, shared_none}
use Rattle.dom_set.proofs.combined.push_left.Goals as goal

pub loop-i-preserved : goal.loop-i-preserved
loop-i-preserved c = record {
  all = λ x. left_behind c.args.others.now c.loop-i.i c.index-others-i-in-loop-i.result (times c.loop-i.out.items x) (times c.left_behind.new.done.items x) (times c.loop-i.left.items x) (times c.in_ok-left.left.items x) x c.loop-i-test.true c.index-others-i-in-loop-i.is
      (c.in_ok-left.ensures.all x ∙ ap (λ (ps : List Piece). times c.loop-i.out.items x + cond (in_piece c.index-others-i-in-loop-i.result x) 0 (times ps x)) c.deref-in-loop-i.ensures.value)
      (λ held. c.in_ok-left.ensures.before x (λ up. begun c.args.others.now c.loop-i.i c.index-others-i-in-loop-i.result x (c.requires.ascending up) c.loop-i-test.true c.index-others-i-in-loop-i.is held))
      ∙ c.loop-i.invariant.all x;
  within = λ x. omega (arith, c.in_ok-left.ensures.within x, ap (λ (ps : List Piece). times ps x) c.deref-in-loop-i.ensures.value, c.loop-i.invariant.within x);
}

pub returns-then-p-others : goal.returns-then-p-others
returns-then-p-others c = λ x. omega (
  arith,
  c.in_ok-push_all.ensures x,
  ap (λ (ps : List Piece). times ps x) c.deref.ensures.value,
  left_apart c.args.p (drop c.loop-i.i c.args.others.now) (times c.loop-i.left.items x) x (c.loop-i.invariant.within x)
      (shared_none c.args.p c.args.others.now c.loop-i.i c.index-others-i.result x (c.requires.ascending c.if-ascending.true) c.loop-i-test.true c.if-p-others.true),
  c.loop-i.invariant.all x,
)

pub returns : goal.returns
returns c = λ x. omega (
  arith,
  c.in_ok-push_all-2.ensures x,
  ap (λ (ps : List Piece). times ps x) c.deref-2.ensures.value,
  left_apart c.args.p (drop c.loop-i.i c.args.others.now) (times c.loop-i.left.items x) x (c.loop-i.invariant.within x)
      (rest_none c.args.p c.args.others.now c.loop-i.i x c.loop-i-test.false),
  c.loop-i.invariant.all x,
)
