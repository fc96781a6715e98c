use Rattle.std.proofs.Common.{List, map, ap, sym, ◌∙◌}
use Rattle.tpl_ast.specs.declared.template.Item.{Item}
use Rattle.tpl_ast.specs.Choices.{all_true, is_fit}
use Rattle.search_tests.proofs.Found.{hart_step}
use Rattle.search_tests.proofs.fits.can_search.Goals as goal

pub loop-hart-preserved : goal.loop-hart-preserved
loop-hart-preserved c = λ rest.
    c.loop-hart.invariant
    (hart_step c.args.harts.now c.loop-hart.hart-index c.hart-item.result c.loop-hart-test.true c.hart-item.is
    (ap (λ (xs : List Item). all_true (map is_fit xs)) (sym c.deref.ensures.value) ∙ c.is_body_fit.ensures c.if-not-is_body_fit.false) rest)
