use Rattle.std.proofs.Common.{◌-◌, length}
use Rattle.run_order.specs.Orders.{order_of}
use Rattle.run_order.proofs.Turns.{AreDrawn}
use Rattle.run_order.proofs.drawing.drawn_order.Given as goal

abbrev pub invariant-loop-turn : goal.invariant-loop-turn
invariant-loop-turn l = AreDrawn (order_of l.number l.left) l.order.items l.rest.items l.draws (l._turn-end - l._turn) (length l.left)
