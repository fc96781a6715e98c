use Rattle.std.proofs.Common.{arith}
use Rattle.dom_set.proofs.Walks.{in_order, one_more}
use Rattle.dom_set.proofs.lists.ascend.Goals as goal

pub loop-i-init : goal.loop-i-init
loop-i-init c = λ k d from lt. absurd (omega (arith, from, lt))

pub loop-i-preserved : goal.loop-i-preserved
loop-i-preserved c = one_more c.args.pieces.now c.loop-i.i c.index-pieces-i-in-loop-i.result c.index-pieces-i.result c.loop-i.invariant c.loop-i-test.true c.loop-i.auto.i c.if-pieces-i.false

pub returns : goal.returns
returns c = λ _. in_order c.args.pieces.now c.loop-i.i c.loop-i-test.false c.loop-i.invariant
