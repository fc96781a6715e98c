use Rattle.std.proofs.Common.{drop}
use Rattle.rv_isa.specs.declared.operation.TheConstants.{OPS}
use Rattle.leaf_pose.specs.declared.shaped.Shaped.{Shaped}
use Rattle.leaf_pose.specs.Posed.{Adds}
use Rattle.leaf_stand.specs.Posed.{all_cases}
use Rattle.leaf_pose.proofs.operations.push_operations.Given as goal

abbrev pub invariant-loop-op : goal.invariant-loop-op
invariant-loop-op l = (end : Shaped) → Adds l.stand l.leaf l.shaped end (all_cases l.stand l.leaf (drop l.op-index OPS)) → Adds l.stand l.leaf l.fn.shaped end (all_cases l.stand l.leaf OPS)
