use Rattle.std.proofs.Common.{◌-◌, ◌<◌, ◌≤◌, ℕ, IsTrue}
use Rattle.near_marks.specs.Internal.Near.{AreStillMarked, is_marked}
use Rattle.near_marks.proofs.marks.Marks.mark_range.Given as goal

abbrev pub invariant-loop-number : goal.invariant-loop-number
invariant-loop-number l = record { marked : (x : ℕ) → l.fn.first ≤ x → x < l.from → IsTrue (is_marked l.self x); kept : AreStillMarked l.initial.self l.self; bound : l.from ≤ 4096 }

abbrev pub decreases-loop-number : goal.decreases-loop-number
decreases-loop-number l = 4096 - l.from
