-- What the orders of words say of variables.
use Rattle.std.proofs.Common.{◌≡◌, ℕ, ◌+◌, ◌-◌, ◌<◌, ◌≤◌, ◌^◌, nat_lt, true, false, List, arith}
use Rattle.std.proofs.lemmas.Bool.{ltb-true}
use Rattle.std.proofs.lemmas.Bool.Decides.{nat_tests}
use Rattle.fd_prob.specs.declared.problem.Assignment.{Assignment}
use Rattle.fd_prob.specs.declared.slot.Slot.{Slot}
use Rattle.fd_prob.specs.Relations.{value_of}
use Rattle.word_sets.specs.declared.orders.Order.{Order}
use Rattle.word_sets.specs.declared.orders.Order.TheVariants.{Signed, Unsigned}
use Rattle.fd_narrow.specs.Narrowing.{IsInside, domain_in}
use Rattle.fd_narrow.specs.Internal.Orders.{IsOrdered, IsRanked}
use Rattle.word_sets.specs.Internal.Orders.{HasEnds, rank}
use Rattle.fd_narrow.specs.Internal.Steps.{Leaves}
use Rattle.fd_narrow.proofs.Compositions.{weakened}
use Rattle.set_sums.proofs.Members.{element}

not_less : (m n : ℕ) → nat_lt m n ≡ false → n ≤ m
not_less m n h = grind (arith, nat_tests)

rank_below : (order : Order) (v : ℕ) → v < 2 ^ 32 → rank order v < 2 ^ 32
rank_below Unsigned v small = small
rank_below Signed v small = omega arith

module _ (a b : List (List ℕ)) (s t : Slot) (order : Order) (ends : ℕ × ℕ) where
  word_of : (u : Slot) → HasEnds order (domain_in a u) ends → (x : Assignment) → IsInside a x → value_of x u < 2 ^ 32
  word_of u has x inside = element (λ n. n < 2 ^ 32) (domain_in a u) (value_of x u) has.words (inside u)

  pub before_cut : (top : ℕ) → ends.1 ≤ top + 1 → HasEnds order (domain_in a t) ends → Leaves (IsRanked order s 0 top) a b → Leaves (IsOrdered order s t true) a b
  before_cut top high has leaves = weakened (IsRanked order s 0 top) (IsOrdered order s t true) a b
      (λ x inside ordered small. let less : rank order (value_of x s) < rank order (value_of x t) = ltb-true (rank order (value_of x s)) (rank order (value_of x t)) (ordered small (word_of t has x inside)) in
      let most : rank order (value_of x t) ≤ ends.1 = (has.between (value_of x t) (inside t)).1 in (omega arith, omega (arith, less, most, high))) leaves

  pub after_cut : (least : ℕ) → least ≤ ends.0 + 1 → HasEnds order (domain_in a s) ends → Leaves (IsRanked order t least (2 ^ 32 - 1)) a b → Leaves (IsOrdered order s t true) a b
  after_cut least low has leaves = weakened (IsRanked order t least (2 ^ 32 - 1)) (IsOrdered order s t true) a b
      (λ x inside ordered small. let less : rank order (value_of x s) < rank order (value_of x t) = ltb-true (rank order (value_of x s)) (rank order (value_of x t)) (ordered (word_of s has x inside) small) in
      let first : ends.0 ≤ rank order (value_of x s) = (has.between (value_of x s) (inside s)).0 in
      let top : rank order (value_of x t) < 2 ^ 32 = rank_below order (value_of x t) small in (omega (arith, less, first, low), omega (arith, top))) leaves

  pub from_cut : HasEnds order (domain_in a t) ends → Leaves (IsRanked order s ends.0 (2 ^ 32 - 1)) a b → Leaves (IsOrdered order s t false) a b
  from_cut has leaves = weakened (IsRanked order s ends.0 (2 ^ 32 - 1)) (IsOrdered order s t false) a b
      (λ x inside ordered small. let less : rank order (value_of x t) ≤ rank order (value_of x s) = not_less (rank order (value_of x s)) (rank order (value_of x t)) (ordered small (word_of t has x inside)) in
      let first : ends.0 ≤ rank order (value_of x t) = (has.between (value_of x t) (inside t)).0 in
      let top : rank order (value_of x s) < 2 ^ 32 = rank_below order (value_of x s) small in (omega (arith, less, first), omega (arith, top))) leaves

  pub to_cut : HasEnds order (domain_in a s) ends → Leaves (IsRanked order t 0 ends.1) a b → Leaves (IsOrdered order s t false) a b
  to_cut has leaves = weakened (IsRanked order t 0 ends.1) (IsOrdered order s t false) a b
      (λ x inside ordered small. let less : rank order (value_of x t) ≤ rank order (value_of x s) = not_less (rank order (value_of x s)) (rank order (value_of x t)) (ordered (word_of s has x inside) small) in
      let most : rank order (value_of x s) ≤ ends.1 = (has.between (value_of x s) (inside s)).1 in (omega arith, omega (arith, less, most))) leaves
