use Rattle.std.proofs.Common.{take}
use Rattle.set_sums.specs.Internal.Spans.{AreKept, HaveSums}
use Rattle.set_sums.proofs.ranges.push_block.Given as goal

abbrev pub invariant-loop-first : goal.invariant-loop-first
invariant-loop-first l = record { sums : HaveSums l.ranges.items (take l.first-index l.firsts) l.others l.windows; kept : AreKept l.initial.ranges.items l.ranges.items }
