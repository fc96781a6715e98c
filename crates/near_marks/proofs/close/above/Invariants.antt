use Rattle.std.proofs.Common.{ℕ, ◌-◌, ◌<◌, ◌≤◌, IsTrue}
use Rattle.lane_bits.specs.Pages.{has}
use Rattle.near_marks.proofs.close.above.Given as goal

abbrev pub invariant-loop-number : goal.invariant-loop-number
invariant-loop-number l = record { made : (i j : ℕ) → IsTrue (has l.firsts i) → IsTrue (has l.others j) → i < 4096 → j < 4096 → j < l.from → j ≤ i → IsTrue (has l.made (i - j)); bound : l.from ≤ 4096 }

abbrev pub decreases-loop-number : goal.decreases-loop-number
decreases-loop-number l = 4096 - l.from
