use Rattle.std.proofs.Common.{take}
use Rattle.set_sums.specs.Internal.Spans.{IsAround}
use Rattle.set_sums.proofs.ranges.hull.Given as goal

abbrev pub invariant-loop-range : goal.invariant-loop-range
invariant-loop-range l = IsAround (take l.range-index l.ranges) (l.low, l.high)
