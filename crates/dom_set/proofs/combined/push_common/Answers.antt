use Rattle.std.proofs.Common.{arith}
use Rattle.dom_set.proofs.Walks.{shared_none}
use Rattle.dom_set.proofs.combined.push_common.Goals as goal

pub returns-then-p-others : goal.returns-then-p-others
returns-then-p-others c = λ x. omega (
  arith,
  c.loop-i.invariant x,
  shared_none c.args.p c.args.others.now c.loop-i.i c.index-others-i.result x (c.requires c.if-ascending.true) c.loop-i-test.true c.if-p-others.true,
)
