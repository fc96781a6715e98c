-- Variables in the two orders of words.
use Rattle.std.specs.Prelude.{ℕ, ◌^◌, ◌<◌, ◌≤◌, ◌≡◌, Bool, nat_lt}
use Rattle.fd_prob.specs.declared.problem.Assignment.{Assignment}
use Rattle.fd_prob.specs.declared.slot.Slot.{Slot}
use Rattle.fd_prob.specs.Relations.{value_of}
use Rattle.word_sets.specs.declared.orders.Order.{Order}
use Rattle.word_sets.specs.Internal.Orders.{rank}

-- the rank of a variable's value is between two numbers
abbrev pub IsRanked : Order → Slot → ℕ → ℕ → Assignment → Type 0
IsRanked order s low high x = value_of x s < 2 ^ 32 → (low ≤ rank order (value_of x s)) × (rank order (value_of x s) ≤ high)

-- whether the first value comes before the second
abbrev pub IsOrdered : Order → Slot → Slot → Bool → Assignment → Type 0
IsOrdered order s t before x = value_of x s < 2 ^ 32 → value_of x t < 2 ^ 32 → nat_lt (rank order (value_of x s)) (rank order (value_of x t)) ≡ before
