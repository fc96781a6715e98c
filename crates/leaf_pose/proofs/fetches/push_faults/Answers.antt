use Rattle.leaf_pose.specs.Fetches.{fault_end}
use Rattle.leaf_stand.specs.Stands.{turn_of}
use Rattle.leaf_pose.proofs.Fetching.{next_comes, none_comes}
use Rattle.leaf_pose.proofs.fetches.push_faults.Goals as goal

pub loop-way-preserved : goal.loop-way-preserved
loop-way-preserved c = λ end h.
    c.loop-way.invariant end
    (next_comes (fault_end c.args.causes.now) (turn_of c.args.stand.now) c.args.ways.now c.loop-way.way-index c.way-item.result c.fault_end.result c.loop-way.cases c.push_entries.new.cases end c.loop-way-test.true c.way-item.is c.fault_end.ensures c.in_ok-push_entries.ensures h)

pub returns : goal.returns
returns c = c.loop-way.invariant c.loop-way.cases (none_comes (fault_end c.args.causes.now) (turn_of c.args.stand.now) c.args.ways.now c.loop-way.way-index c.loop-way.cases c.loop-way-test.false)
