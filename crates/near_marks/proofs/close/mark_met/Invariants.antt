use Rattle.std.proofs.Common.{◌+◌, ◌-◌, ◌<◌, ◌≤◌}
use Rattle.near_marks.specs.Internal.Near.{AreStillMarked}
use Rattle.near_marks.proofs.Closing.{AreMetBelow}
use Rattle.near_marks.proofs.close.mark_met.Given as goal

abbrev pub invariant-loop-number : goal.invariant-loop-number
invariant-loop-number l = record { met : AreMetBelow l.marks l.firsts l.others l.ends l.base l.from; kept : AreStillMarked l.initial.marks l.marks; bound : l.from ≤ 4096; start : l.from < 4096 → l.ends ≤ l.base + l.from + 4095 }

abbrev pub decreases-loop-number : goal.decreases-loop-number
decreases-loop-number l = 4096 - l.from
