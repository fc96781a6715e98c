use Rattle.std.proofs.Common.{◌-◌, ◌≤◌}
use Rattle.near_marks.specs.Internal.Near.{AreStillMarked}
use Rattle.near_marks.specs.Internal.Turned.{place_of}
use Rattle.near_marks.proofs.Turning.{AreMarkedTo}
use Rattle.near_marks.proofs.marks.Marks.mark_row.Given as goal

abbrev pub invariant-loop-number : goal.invariant-loop-number
invariant-loop-number l = record { marked : AreMarkedTo l.self (place_of l.fn.first) l.from; kept : AreStillMarked l.initial.self l.self; bound : l.from ≤ 4096 }

abbrev pub decreases-loop-number : goal.decreases-loop-number
decreases-loop-number l = 4096 - l.from
