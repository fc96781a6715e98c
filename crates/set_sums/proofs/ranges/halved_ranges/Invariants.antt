use Rattle.std.proofs.Common.{take}
use Rattle.set_sums.specs.Internal.Spans.{HaveHalves}
use Rattle.set_sums.proofs.ranges.halved_ranges.Given as goal

abbrev pub invariant-loop-range : goal.invariant-loop-range
invariant-loop-range l = HaveHalves l.halved.items (take l.range-index l.ranges)
