use Rattle.std.proofs.Common.{◌≡◌, ◌+◌, ◌-◌, ◌%◌, ◌^◌}
use Rattle.near_marks.specs.Internal.Near.{AreStillMarked}
use Rattle.near_marks.proofs.Marking.{HaveSumsBelow}
use Rattle.near_marks.proofs.pairs.mark_apart.Given as goal

abbrev pub invariant-loop-number : goal.invariant-loop-number
invariant-loop-number l = record { marked : HaveSumsBelow l.marks l.whole l.fn.other l.base l.number; kept : AreStillMarked l.initial.marks l.marks; same : l.number % 2 ^ l.fn.other.shift ≡ l.fn.other.low % 2 ^ l.fn.other.shift }

abbrev pub decreases-loop-number : goal.decreases-loop-number
decreases-loop-number l = l.last + 1 - l.number
