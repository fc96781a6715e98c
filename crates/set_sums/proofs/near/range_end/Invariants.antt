use Rattle.std.proofs.Common.{◌-◌, ◌<◌, ◌≤◌}
use Rattle.set_sums.proofs.near.range_end.Given as goal

abbrev pub invariant-loop-next : goal.invariant-loop-next
invariant-loop-next l = record { behind : l.number < l.end; within : l.end ≤ 4096 }

abbrev pub decreases-loop-next : goal.decreases-loop-next
decreases-loop-next l = 4096 - l.end
