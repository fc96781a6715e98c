use Rattle.leaf_turn.proofs.Data.{all_ranges, next_range}
use Rattle.leaf_turn.proofs.memory.ranges_of.Goals as goal

pub loop-entry-preserved : goal.loop-entry-preserved
loop-entry-preserved c = next_range c.args.ptes.now c.loop-entry.entry-index _ c.loop-entry.ranges.items _ c.loop-entry-test.true c.requires c.loop-entry.invariant c.in_ok-push.ensures.items

pub returns : goal.returns
returns c = all_ranges c.args.ptes.now c.loop-entry.entry-index c.loop-entry.ranges.items c.loop-entry-test.false c.loop-entry.invariant
