use Rattle.std.proofs.Common.{◌≡◌, ◌++◌, drop}
use Rattle.run_order.specs.Orders.{with_turns}
use Rattle.run_order.proofs.drawing.ready.Given as goal

abbrev pub invariant-loop-k : goal.invariant-loop-k
invariant-loop-k l = l.harts.items ++ with_turns l.k (drop l.k l.left) ≡ with_turns 0 l.left
