use Rattle.std.proofs.Common.{drop}
use Rattle.rv_isa.specs.declared.operation.TheConstants.{OPS}
use Rattle.leaf_pose.specs.declared.shaped.Shaped.{Shaped}
use Rattle.leaf_pose.specs.Internal.Firsts.{AddsFirsts}
use Rattle.leaf_pose.proofs.firsts.push_firsts.Given as goal

abbrev pub invariant-loop-op : goal.invariant-loop-op
invariant-loop-op l = (end : Shaped) → AddsFirsts l.stand l.leaf (drop l.op-index OPS) l.shaped end → AddsFirsts l.stand l.leaf OPS l.fn.shaped end
