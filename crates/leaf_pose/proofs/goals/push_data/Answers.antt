use Rattle.std.proofs.Common.{List, subst, sym, ◌∷◌, []}
use Rattle.data_ways.specs.declared.way.DataWay.{DataWay}
use Rattle.data_goals.specs.declared.goal.Goal.TheVariants.{Misaligned}
use Rattle.data_goals.specs.Goals.{goal_way, ways_through}
use Rattle.leaf_stand.specs.Posed.{stand_cases}
use Rattle.leaf_stand.specs.Stands.{turn_of}
use Rattle.leaf_pose.specs.Goals.{IsAimed, IsGoalOf}
use Rattle.leaf_pose.specs.Posed.{Adds}
use Rattle.leaf_pose.proofs.Accessing.{goals_added, missed_goal}
use Rattle.leaf_pose.proofs.goals.push_data.Goals as goal

pub returns : goal.returns
returns c =
    let s = c.args.stand.now in
    let leaf = c.args.leaf.now in
    let op = c.args.op in
    let a = c.in-Some.accesses in
    let aimed : IsAimed s leaf op a c.in_ok-targets.targets = record { accesses = c.in-Some.is; targets_are = c.in_ok-targets.ensures } in
    let missed : IsGoalOf s leaf op a c.misses-missing.result Misaligned = subst (λ (way : DataWay). IsGoalOf s leaf op a way Misaligned) (sym c.misses-missing.ensures) (missed_goal s leaf op a) in
    goals_added s leaf op a c.args.shaped.now c.push_goal.new.shaped c.push_ways.new.shaped c.requires.kind c.in-Some.is
    (subst (λ (way : DataWay). Adds s leaf c.args.shaped.now c.push_goal.new.shaped (stand_cases s leaf op (goal_way (turn_of s) a leaf op way Misaligned ∷ []))) c.misses-missing.ensures (c.in_ok-push_goal.ensures a aimed missed))
    (subst (λ (l : List DataWay). Adds s leaf c.push_goal.new.shaped c.push_ways.new.shaped (stand_cases s leaf op (ways_through (turn_of s) a leaf op l))) c.ways.ensures (c.in_ok-push_ways.ensures a aimed c.ways.ensures))
