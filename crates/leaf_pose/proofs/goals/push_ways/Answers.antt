use Rattle.std.proofs.Common.{subst}
use Rattle.data_ways.specs.declared.way.DataWay.{DataWay}
use Rattle.data_goals.specs.Goals.{goals_by, ways_by}
use Rattle.leaf_stand.specs.Posed.{stand_cases}
use Rattle.leaf_stand.specs.Stands.{turn_of}
use Rattle.leaf_pose.specs.Goals.{AreGoalsOf}
use Rattle.leaf_pose.specs.Posed.{Adds}
use Rattle.leaf_pose.proofs.Accessing.{next_data_way, no_data_ways, way_goals}
use Rattle.leaf_pose.proofs.goals.push_ways.Goals as goal

pub loop-way-preserved : goal.loop-way-preserved
loop-way-preserved c a aimed ways end h =
    let s = c.args.stand.now in
    let leaf = c.args.leaf.now in
    let op = c.args.op in
    let here : AreGoalsOf s leaf op a c.way-item.result =
    subst (λ (way : DataWay). AreGoalsOf s leaf op a way) (Rattle.std.proofs.Common.sym c.way-item.is) (way_goals s leaf op a c.args.ways.now c.loop-way.way-index c.way-item.result ways c.loop-way-test.true) in
    c.loop-way.invariant a aimed ways end
    (next_data_way s leaf op a c.args.ways.now c.loop-way.way-index c.way-item.result c.loop-way.shaped c.push_way.new.shaped end c.loop-way-test.true
    (subst (λ (way : DataWay). Adds s leaf c.loop-way.shaped c.push_way.new.shaped (stand_cases s leaf op (ways_by (turn_of s) a leaf op way (goals_by way.end)))) c.way-item.is (c.in_ok-push_way.ensures a aimed here)) h)

pub returns : goal.returns
returns c a aimed ways = c.loop-way.invariant a aimed ways c.loop-way.shaped (no_data_ways c.args.stand.now c.args.leaf.now c.args.op a c.args.ways.now c.loop-way.way-index c.loop-way.shaped c.loop-way-test.false)
