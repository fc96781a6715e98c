use Rattle.rv_isa.specs.declared.operation.TheConstants.{OPS}
use Rattle.leaf_stand.specs.Posed.{is_posable}
use Rattle.leaf_pose.proofs.Steps.{next_operation, no_operations, test_here}
use Rattle.leaf_pose.proofs.operations.push_operations.Goals as goal

pub push_operation-requires-clause-posable : goal.push_operation-requires-clause-posable
push_operation-requires-clause-posable c = test_here (is_posable c.args.stand.now c.args.leaf.now) OPS c.loop-op.op-index _ c.loop-op-test.true c.requires.posable

pub loop-op-preserved : goal.loop-op-preserved
loop-op-preserved c = λ end h. c.loop-op.invariant end (next_operation c.args.stand.now c.args.leaf.now OPS c.loop-op.op-index _ c.loop-op.shaped c.push_operation.new.shaped end c.loop-op-test.true c.in_ok-push_operation.ensures h)

pub returns : goal.returns
returns c = c.loop-op.invariant c.loop-op.shaped (no_operations c.args.stand.now c.args.leaf.now OPS c.loop-op.op-index c.loop-op.shaped c.loop-op-test.false)
