use Rattle.set_sums.proofs.Spans.{negatives_by_ranges}
use Rattle.set_sums.proofs.ranges.difference_parts.Goals as goal

pub returns-then-not-are_many : goal.returns-then-not-are_many
returns-then-not-are_many c = (c.in_ok-wholes.ensures, negatives_by_ranges c.args.second.now c.in_ok-seconds.seconds.items c.in_ok-others.others.items c.requires c.in_ok-seconds.ensures (rw c.deref.ensures.value at c.in_ok-others.ensures))

pub returns-then-narrower : goal.returns-then-narrower
returns-then-narrower c = (c.in_ok-wholes-2.ensures, negatives_by_ranges c.args.second.now c.in_ok-seconds.seconds.items c.in_ok-others.others.items c.requires c.in_ok-seconds.ensures (rw c.deref.ensures.value at c.in_ok-others.ensures))

pub returns : goal.returns
returns c = (c.in_ok-wholes.ensures, negatives_by_ranges c.args.second.now c.in_ok-seconds-2.seconds.items c.in_ok-others-2.others.items c.requires c.in_ok-seconds-2.ensures (rw c.deref-4.ensures.value at c.in_ok-others-2.ensures))
