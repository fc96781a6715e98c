use Rattle.set_sums.proofs.Spans.{halves_cover}
use Rattle.set_sums.proofs.ranges.halves.Goals as goal

pub returns : goal.returns
returns c = halves_cover c.args.set.now c.in_ok-lower.lower c.in_ok-upper.upper c.push_ends.new.ranges.items c.push_ends-2.new.ranges.items c.in_ok-lower.ensures c.in_ok-upper.ensures c.in_ok-push_ends.ensures.covered c.in_ok-push_ends-2.ensures.kept c.in_ok-push_ends-2.ensures.covered
