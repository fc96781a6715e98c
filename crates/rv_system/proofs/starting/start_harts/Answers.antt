use Rattle.std.proofs.Common.{◌≡◌, ℕ, length, subst, arith}
use Rattle.tpl_ast.specs.declared.template.HartState.{HartState}
use Rattle.rv_system.specs.Internal.Starting.{IsFilledHart}
use Rattle.rv_system.proofs.Starts.{filled_first, filled_next, filled_end}
use Rattle.rv_system.proofs.starting.start_harts.Goals as goal

pub loop-k-init : goal.loop-k-init
loop-k-init c = filled_first c.args.cert.now c.args.fill c.new-harts.result.items c.new-harts.ensures.items

pub loop-k-preserved : goal.loop-k-preserved
loop-k-preserved c =
    let k : ℕ = c.loop-k.k in
    filled_next c.args.cert.now c.args.fill k c.loop-k.harts.items c.push.new.self.items c.filled_hart.result c.loop-k.invariant c.in_ok-push.ensures.items
    (subst (λ (s : HartState). IsFilledHart s k c.args.fill c.filled_hart.result) c.start_state.ensures.state (subst (λ (n : ℕ). IsFilledHart c.start_state.result.now n c.args.fill c.filled_hart.result) c.from.ensures c.filled_hart.ensures))

pub returns : goal.returns
returns c =
    let end : c.loop-k.k ≡ length c.args.cert.now.start = omega (arith, c.loop-k-test.false, c.loop-k.auto.k-end, c.len-k-end.ensures) in
    filled_end c.args.cert.now c.args.fill c.loop-k.k c.loop-k.harts.items end c.loop-k.invariant
