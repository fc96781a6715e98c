use Rattle.std.proofs.Common.{take}
use Rattle.set_sums.specs.Internal.Spans.{AreNegated}
use Rattle.set_sums.proofs.ranges.negated.Given as goal

abbrev pub invariant-loop-range : goal.invariant-loop-range
invariant-loop-range l = AreNegated l.negated.items (take l.range-index l.ranges)
