use Rattle.std.proofs.Common.{drop}
use Rattle.leaf_pose.specs.declared.shaped.Shaped.{Shaped}
use Rattle.leaf_pose.specs.Posed.{Adds}
use Rattle.leaf_stand.specs.Internal.Ways.{way_cases}
use Rattle.leaf_pose.proofs.cases.push_ways.Given as goal

abbrev pub invariant-loop-way : goal.invariant-loop-way
invariant-loop-way l = (end : Shaped) → Adds l.stand l.leaf l.shaped end (way_cases l.stand l.leaf l.op (drop l.way-index l.ways)) → Adds l.stand l.leaf l.fn.shaped end (way_cases l.stand l.leaf l.op l.ways)
