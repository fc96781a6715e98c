use Rattle.std.proofs.Common.{◌≡◌, ℕ, ◌+◌, ◌-◌, suc, length, subst, arith}
use Rattle.run_order.specs.Orders.{order_of}
use Rattle.run_order.proofs.Turns.{AreDrawn, drawn_next}
use Rattle.run_order.proofs.drawing.drawn_order.Goals as goal

pub loop-turn-preserved : goal.loop-turn-preserved
loop-turn-preserved c =
    let end : ℕ = c.total-turn-end.result in
    let i : ℕ = c.loop-turn._turn in
    let all = order_of c.args.number c.args.left.now in
    let count = length c.args.left.now in
    let one : end - i ≡ suc (end - (i + 1)) = omega (arith, c.loop-turn-test.true) in
    drawn_next all c.loop-turn.order.items c.push.new.self.items c.loop-turn.rest.items c.pick.new.left.items c.loop-turn.draws c.pick.new.draws (end - (i + 1)) count c.in_ok-pick.field-0
    (subst (λ (n : ℕ). AreDrawn all c.loop-turn.order.items c.loop-turn.rest.items c.loop-turn.draws n count) one c.loop-turn.invariant) c.in_ok-push.ensures.items c.in_ok-pick.ensures.hart c.in_ok-pick.ensures.draws
    c.in_ok-pick.ensures.left
