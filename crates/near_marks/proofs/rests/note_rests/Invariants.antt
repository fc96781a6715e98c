use Rattle.std.proofs.Common.{◌≡◌, ◌+◌, ◌-◌, ◌%◌, ◌^◌}
use Rattle.near_marks.specs.Internal.Rests.{AreRestsKept}
use Rattle.near_marks.proofs.Leaving.{HaveRestsBelow}
use Rattle.near_marks.proofs.rests.note_rests.Given as goal

abbrev pub invariant-loop-number : goal.invariant-loop-number
invariant-loop-number l = record { noted : HaveRestsBelow l.rests l.fn.steps l.number; kept : AreRestsKept l.initial.rests l.rests; same : l.number % 2 ^ l.fn.steps.shift ≡ l.fn.steps.low % 2 ^ l.fn.steps.shift }

abbrev pub decreases-loop-number : goal.decreases-loop-number
decreases-loop-number l = l.end + 1 - l.number
