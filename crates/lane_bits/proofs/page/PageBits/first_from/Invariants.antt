use Rattle.std.proofs.Common.{◌≡◌, ◌*◌, ◌<◌, ◌≤◌, ℕ, false}
use Rattle.lane_bits.specs.Pages.{has}
use Rattle.lane_bits.proofs.page.PageBits.first_from.Given as goal

abbrev pub invariant-loop-k : goal.invariant-loop-k
invariant-loop-k l = (x : ℕ) → l.i ≤ x → x < l.k * 64 → has l.self x ≡ false
