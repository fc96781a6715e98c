use Rattle.std.proofs.Common.{ℕ, ◌-◌, ◌<◌, ◌≤◌, IsTrue}
use Rattle.lane_bits.specs.Pages.{has}
use Rattle.near_marks.proofs.close.turned.Given as goal

abbrev pub invariant-loop-number : goal.invariant-loop-number
invariant-loop-number l = record { made : (i : ℕ) → IsTrue (has l.page i) → i < 4096 → i < l.from → IsTrue (has l.made (4095 - i)); bound : l.from ≤ 4096 }

abbrev pub decreases-loop-number : goal.decreases-loop-number
decreases-loop-number l = 4096 - l.from
