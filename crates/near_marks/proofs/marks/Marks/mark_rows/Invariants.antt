use Rattle.std.proofs.Common.{◌≡◌, ◌+◌, ◌-◌, ◌%◌, ◌^◌, ◌≤◌}
use Rattle.near_marks.specs.Internal.Near.{AreStillMarked}
use Rattle.near_marks.proofs.Turning.{HaveRowsBelow}
use Rattle.near_marks.proofs.marks.Marks.mark_rows.Given as goal

abbrev pub invariant-loop-number : goal.invariant-loop-number
invariant-loop-number l = record { marked : HaveRowsBelow l.self l.first l.last l.shift l.number; kept : AreStillMarked l.initial.self l.self; same : l.number % 2 ^ l.shift ≡ l.first % 2 ^ l.shift; from : l.first ≤ l.number }

abbrev pub decreases-loop-number : goal.decreases-loop-number
decreases-loop-number l = l.end + 1 - l.number
