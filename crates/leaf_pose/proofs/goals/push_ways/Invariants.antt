use Rattle.std.proofs.Common.{◌≡◌, drop}
use Rattle.data_goals.specs.declared.accesses.Accesses.{Accesses}
use Rattle.data_goals.specs.Goals.{ways_for, ways_through}
use Rattle.leaf_stand.specs.Posed.{stand_cases}
use Rattle.leaf_stand.specs.Stands.{turn_of}
use Rattle.leaf_pose.specs.declared.shaped.Shaped.{Shaped}
use Rattle.leaf_pose.specs.Goals.{IsAimed}
use Rattle.leaf_pose.specs.Posed.{Adds}
use Rattle.leaf_pose.proofs.goals.push_ways.Given as goal

abbrev pub invariant-loop-way : goal.invariant-loop-way
invariant-loop-way l = (a : Accesses) → IsAimed l.stand l.leaf l.op a l.targets → l.ways ≡ ways_for a l.op → (end : Shaped) → Adds l.stand l.leaf l.shaped end (stand_cases l.stand l.leaf l.op (ways_through (turn_of l.stand) a l.leaf l.op (drop l.way-index l.ways)))
    → Adds l.stand l.leaf l.fn.shaped end (stand_cases l.stand l.leaf l.op (ways_through (turn_of l.stand) a l.leaf l.op l.ways))
