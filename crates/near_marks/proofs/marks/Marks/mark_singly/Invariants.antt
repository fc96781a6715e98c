use Rattle.std.proofs.Common.{◌≡◌, ◌+◌, ◌-◌, ◌%◌, ◌^◌}
use Rattle.near_marks.specs.Internal.Near.{AreStillMarked}
use Rattle.near_marks.proofs.Marking.{HaveEachBelow}
use Rattle.near_marks.proofs.marks.Marks.mark_singly.Given as goal

abbrev pub invariant-loop-number : goal.invariant-loop-number
invariant-loop-number l = record { marked : HaveEachBelow l.self l.first l.number l.shift; kept : AreStillMarked l.initial.self l.self; same : l.number % 2 ^ l.shift ≡ l.first % 2 ^ l.shift }

abbrev pub decreases-loop-number : goal.decreases-loop-number
decreases-loop-number l = l.last + 1 - l.number
