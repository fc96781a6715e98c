use Rattle.leaf_pose.proofs.Steps.{next_way, no_ways, way_here}
use Rattle.leaf_pose.proofs.cases.push_ways.Goals as goal

pub push_way-requires-clause-way : goal.push_way-requires-clause-way
push_way-requires-clause-way c = way_here c.args.stand.now c.args.op c.args.ways.now c.loop-way.way-index _ c.loop-way-test.true c.requires.ways

pub loop-way-preserved : goal.loop-way-preserved
loop-way-preserved c = λ end h. c.loop-way.invariant end (next_way c.args.stand.now c.args.leaf.now c.args.op c.args.ways.now c.loop-way.way-index _ c.loop-way.shaped c.push_way.new.shaped end c.loop-way-test.true c.in_ok-push_way.ensures h)

pub returns : goal.returns
returns c = c.loop-way.invariant c.loop-way.shaped (no_ways c.args.stand.now c.args.leaf.now c.args.op c.args.ways.now c.loop-way.way-index c.loop-way.shaped c.loop-way-test.false)
