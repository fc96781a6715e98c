use Rattle.leaf_pose.proofs.Granting.{listed_usage, next_usage, no_usages}
use Rattle.leaf_pose.proofs.csrs.push_usages.Goals as goal

pub push_access-requires-clause-listed : goal.push_access-requires-clause-listed
push_access-requires-clause-listed c = listed_usage c.args.stand.now c.args.op c.args.register c.args.usages.now c.loop-usage.usage-index _ c.loop-usage-test.true c.requires.register c.requires.usages

pub loop-usage-preserved : goal.loop-usage-preserved
loop-usage-preserved c = λ end h. c.loop-usage.invariant end (next_usage c.args.stand.now c.args.leaf.now c.args.op c.args.register c.args.usages.now c.loop-usage.usage-index _ c.loop-usage.shaped c.push_access.new.shaped end c.loop-usage-test.true c.in_ok-push_access.ensures h)

pub returns : goal.returns
returns c = c.loop-usage.invariant c.loop-usage.shaped (no_usages c.args.stand.now c.args.leaf.now c.args.op c.args.register c.args.usages.now c.loop-usage.usage-index c.loop-usage.shaped c.loop-usage-test.false)
