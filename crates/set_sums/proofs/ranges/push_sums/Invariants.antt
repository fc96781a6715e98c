use Rattle.std.proofs.Common.{take}
use Rattle.set_sums.specs.Internal.Spans.{AreKept, HaveSumsWith}
use Rattle.set_sums.proofs.ranges.push_sums.Given as goal

abbrev pub invariant-loop-other : goal.invariant-loop-other
invariant-loop-other l = record { sums : HaveSumsWith l.ranges.items l.first (take l.other-index l.others) l.windows; kept : AreKept l.initial.ranges.items l.ranges.items }
