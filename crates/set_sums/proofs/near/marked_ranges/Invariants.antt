use Rattle.std.proofs.Common.{◌-◌, ◌≤◌}
use Rattle.set_sums.specs.Internal.Near.{AreInRanges}
use Rattle.set_sums.proofs.near.marked_ranges.Given as goal

abbrev pub invariant-loop-first : goal.invariant-loop-first
invariant-loop-first l = record { ranges : AreInRanges l.marks l.from l.ranges.items; bound : l.from ≤ 4096 }

abbrev pub decreases-loop-first : goal.decreases-loop-first
decreases-loop-first l = 4096 - l.from
