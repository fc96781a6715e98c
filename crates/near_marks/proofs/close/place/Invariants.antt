use Rattle.std.proofs.Common.{◌≡◌, ◌+◌, ◌-◌, ◌%◌, ◌^◌, ◌≤◌}
use Rattle.near_marks.specs.Internal.Rests.{AreRestsKept}
use Rattle.near_marks.proofs.Closing.{ArePlacedBelow}
use Rattle.near_marks.proofs.close.place.Given as goal

abbrev pub invariant-loop-number : goal.invariant-loop-number
invariant-loop-number l = record { placed : ArePlacedBelow l.page l.fn.steps l.fn.low l.number; kept : AreRestsKept l.initial.page l.page; same : l.number % 2 ^ l.fn.steps.shift ≡ l.fn.steps.low % 2 ^ l.fn.steps.shift; above : l.fn.low ≤ l.number }

abbrev pub decreases-loop-number : goal.decreases-loop-number
decreases-loop-number l = l.end + 1 - l.number
