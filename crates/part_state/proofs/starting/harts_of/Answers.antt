use Rattle.std.proofs.Common.{◌≡◌, ℕ, sym, ap, ◌∙◌, subst, arith}
use Rattle.tpl_ast.specs.declared.template.HartDecl.{HartDecl}
use Rattle.tpl_ast.specs.declared.template.HartState.{HartState}
use Rattle.tpl_ast.specs.States.{IsState}
use Rattle.part_machine.specs.Whole.{bare}
use Rattle.part_state.specs.Beginning.{IsHartOf, start_in}
use Rattle.part_state.proofs.Declared.{begun_more, begun_all, declared_at, state_at}
use Rattle.part_state.proofs.starting.harts_of.Goals as goal

pub started_hart-requires : goal.started_hart-requires
started_hart-requires c = subst (λ (d : HartDecl). IsState d.start) (sym c.index-decls-k.is) (state_at c.args.decls.now c.loop-k.k c.index-decls-k.result c.loop-k-test.true c.requires.states)

pub loop-k-preserved : goal.loop-k-preserved
loop-k-preserved c =
    let decls = c.args.decls.now in
    let k : ℕ = c.loop-k.k in
    let d : HartDecl = c.index-decls-k.result in
    let is : d.start ≡ start_in decls k = ap (λ (x : HartDecl). x.start) c.index-decls-k.is ∙ sym (declared_at decls k d c.loop-k-test.true) in
    begun_more decls c.loop-k.harts.items c.push.new.self.items c.started_hart.result k c.in_ok-push.ensures.items (subst (λ (s : HartState). IsHartOf k s (bare c.started_hart.result)) is c.started_hart.ensures) c.loop-k.invariant

pub returns : goal.returns
returns c = begun_all c.args.decls.now c.loop-k.harts.items c.loop-k.k (omega (arith, c.loop-k-test.false, c.loop-k.auto.k-end)) c.loop-k.invariant
