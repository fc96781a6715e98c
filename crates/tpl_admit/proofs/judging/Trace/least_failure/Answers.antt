use Rattle.std.proofs.Common.{◌≡◌, ◌+◌, suc, List, ◌∷◌, drop, drop-cons, map, Some, option_map, sym, ap, ◌∙◌, arith}
use Rattle.std.specs.Borrow.{Bor}
use Rattle.std.specs.Prelude.{ℕ}
use Rattle.tpl_ast.specs.Expansion.{expansion_of}
use Rattle.tpl_admit.specs.Admitting.{failures_from, hart_failures, least_among, at_hart}
use Rattle.tpl_admit.specs.Internal.Walks.{trace}
use Rattle.tpl_admit.proofs.Expansions.{least_append}
use Rattle.tpl_admit.proofs.judging.Trace.least_failure.Goals as goal

pub loop-hart-preserved : goal.loop-hart-preserved
loop-hart-preserved c =
    let t = trace c.args.self.now in
    let k = c.loop-hart.k in
    let harts = c.args.self.now.template.now.harts in
    let rest = drop (c.loop-hart.hart-index + 1) harts in
    let laid = expansion_of c.hart-item.result.body.items c.in-Some.left.now in
    let later : suc c.loop-hart.hart-index ≡ c.loop-hart.hart-index + 1 = omega arith in
    let here : drop c.loop-hart.hart-index harts ≡ c.hart-item.result ∷ rest =
    ap (drop c.loop-hart.hart-index) (sym c.as_slice-hart-items.ensures)
    ∙ drop-cons c.as_slice-hart-items.result.now c.loop-hart.hart-index c.hart-item.result c.loop-hart-test.true
    ∙ (λ i. sym c.hart-item.is i ∷ drop (later i) (c.as_slice-hart-items.ensures i)) in
    let chosen : option_map (λ (x : Bor (List ℕ)). x.now) c.loop-hart.choices ≡ Some c.in-Some.left.now = ap (option_map (λ (x : Bor (List ℕ)). x.now)) c.in-Some.is in
    record {
      number = omega (arith, c.loop-hart.invariant.number);
      least =
          (λ i. least_among (failures_from t (k + 1) rest (c.judge.ensures.left i)) (c.judge.ensures.least i))
          ∙ sym (least_append (map (at_hart k) (hart_failures t k c.hart-item.result laid.pieces)) (failures_from t (k + 1) rest laid.left) c.loop-hart.least)
          ∙ (λ i. least_among (failures_from t k (sym here i) (sym chosen i)) c.loop-hart.least)
          ∙ c.loop-hart.invariant.least;
    }
