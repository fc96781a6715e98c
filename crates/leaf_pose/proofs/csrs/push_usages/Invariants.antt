use Rattle.std.proofs.Common.{drop}
use Rattle.leaf_pose.specs.declared.shaped.Shaped.{Shaped}
use Rattle.leaf_pose.specs.Internal.Csrs.{usage_cases}
use Rattle.leaf_pose.specs.Posed.{Adds}
use Rattle.leaf_pose.proofs.csrs.push_usages.Given as goal

abbrev pub invariant-loop-usage : goal.invariant-loop-usage
invariant-loop-usage l = (end : Shaped) → Adds l.stand l.leaf l.shaped end (usage_cases l.stand l.leaf l.op l.register (drop l.usage-index l.usages)) → Adds l.stand l.leaf l.fn.shaped end (usage_cases l.stand l.leaf l.op l.register l.usages)
