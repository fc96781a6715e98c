use Rattle.rv_isa.specs.declared.operation.TheConstants.{OPS}
use Rattle.leaf_pose.proofs.Leading.{next_first, no_firsts}
use Rattle.leaf_pose.proofs.firsts.push_firsts.Goals as goal

pub loop-op-preserved : goal.loop-op-preserved
loop-op-preserved c = λ end h. c.loop-op.invariant end (next_first c.args.stand.now c.args.leaf.now OPS c.loop-op.op-index _ c.loop-op.shaped c.push_first.new.shaped end c.loop-op-test.true c.in_ok-push_first.ensures h)

pub returns : goal.returns
returns c = c.loop-op.invariant c.loop-op.shaped (no_firsts c.args.stand.now c.args.leaf.now OPS c.loop-op.op-index c.loop-op.shaped c.loop-op-test.false)
