use Rattle.std.proofs.Common.{◌∙◌, ap, ℕ, ◌+◌, get_or, arith}
use Rattle.run_order.proofs.Turns.{sum_to, sum_up_to}
use Rattle.run_order.proofs.drawing.total.Goals as goal

pub overflow_add-turns : goal.overflow_add-turns
overflow_add-turns c =
    let i : ℕ = c.loop-n.n-index in
    omega (arith, c.requires, c.loop-n.invariant, sum_to c.args.left.now i c.loop-n-test.true, sum_up_to c.args.left.now (i + 1))

pub loop-n-preserved : goal.loop-n-preserved
loop-n-preserved c =
    ap (λ (n : ℕ). n + get_or c.args.left.now c.loop-n.n-index 0) c.loop-n.invariant ∙ sum_to c.args.left.now c.loop-n.n-index c.loop-n-test.true
