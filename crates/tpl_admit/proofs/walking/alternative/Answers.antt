use Rattle.std.proofs.Common.{◌<◌, ℕ, List, sym, subst, arith}
use Rattle.std.specs.Prelude.{Vec}
use Rattle.std.specs.Global.{Global}
use Rattle.tpl_ast.specs.declared.template.Item.{Item}
use Rattle.tpl_ast.specs.Depths.{size_of_body, size_of_ways}
use Rattle.tpl_ast.proofs.Sums.{way_size}
use Rattle.tpl_admit.proofs.walking.alternative.Goals as goal

pub returns-clause-smaller : goal.returns-clause-smaller
returns-clause-smaller c =
    let one : size_of_body c.index-ways-at.result.1.items < size_of_ways c.args.ways.now = subst (λ (w : ℕ × Vec Item Global). size_of_body w.1.items < size_of_ways c.args.ways.now) (sym c.index-ways-at.is) (way_size c.args.ways.now c.args.n c.index-ways-at.result (omega (arith, c.if-ways-at.false))) in
    subst (λ (items : List Item). size_of_body items < size_of_ways c.args.ways.now) (sym c.deref.ensures.value) one
