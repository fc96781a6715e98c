use Rattle.std.proofs.Common.{◌≡◌, take}
use Rattle.run_order.specs.Orders.{turns_in}
use Rattle.run_order.proofs.drawing.total.Given as goal

abbrev pub invariant-loop-n : goal.invariant-loop-n
invariant-loop-n l = l.turns ≡ turns_in (take l.n-index l.left)
