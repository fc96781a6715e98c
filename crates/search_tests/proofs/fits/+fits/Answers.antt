use Rattle.std.proofs.Common.{◌≡◌, ◌+◌, ◌<◌, ◌≤◌, ℕ, true, subst, ap, sym, ◌∙◌, arith}
use Rattle.std.specs.Prelude.{Vec}
use Rattle.std.specs.Global.{Global}
use Rattle.tpl_ast.specs.declared.template.Item.{Item}
use Rattle.tpl_ast.specs.Depths.{size_of_body, size_of_item, size_of_ways}
use Rattle.tpl_ast.proofs.Sums.{choose_size, item_size, way_size}
use Rattle.tpl_ast.specs.Choices.{are_ways_fit, can_pick, is_fit}
use Rattle.gen_search.proofs.Fitting.{choose_fit}
use Rattle.search_tests.proofs.Found.{both_fit}
use Rattle.search_tests.proofs.fits.+fits.Goals as goal

pub are_all_fit-is_body_fit-requires : goal.are_all_fit-is_body_fit-requires
are_all_fit-is_body_fit-requires t c =
    let one : size_of_body c.way-item.result.1.items < size_of_ways c.args.ways.now = subst (λ (w : ℕ × Vec Item Global). size_of_body w.1.items < size_of_ways c.args.ways.now) (sym c.way-item.is) (way_size c.args.ways.now c.loop-way.way-index c.way-item.result c.loop-way-test.true) in
    let part : size_of_body c.deref.result.now ≡ size_of_body c.way-item.result.1.items = ap size_of_body c.deref.ensures.value in
    (omega (arith, one, part, c.decreases), tt)

pub is_body_fit-is_item_fit-requires : goal.is_body_fit-is_item_fit-requires
is_body_fit-is_item_fit-requires t c =
    let part : size_of_item c.item-item.result ≤ size_of_body c.args.items.now = subst (λ (i : Item). size_of_item i ≤ size_of_body c.args.items.now) (sym c.item-item.is) (item_size c.args.items.now c.loop-item.item-index c.item-item.result c.loop-item-test.true) in
    (omega (arith, part, c.decreases), tt)

pub is_item_fit-are_all_fit-requires : goal.is_item_fit-are_all_fit-requires
is_item_fit-are_all_fit-requires t c =
    let whole : size_of_item c.args.item.now ≡ 1 + size_of_ways c.in-Choose.ways.items = ap size_of_item c.in-Choose.is ∙ choose_size c.in-Choose.line c.in-Choose.ways in
    let part : size_of_ways c.deref-then-can_pick.result.now ≡ size_of_ways c.in-Choose.ways.items = ap size_of_ways c.deref-then-can_pick.ensures.value in
    (omega (arith, whole, part, c.decreases), tt)

pub is_item_fit-returns-then-can_pick : goal.is_item_fit-returns-then-can_pick
is_item_fit-returns-then-can_pick t c = λ h.
    let picks : can_pick c.in-Choose.ways.items ≡ true = ap can_pick (sym c.deref-in-Choose.ensures.value) ∙ c.can_pick.ensures c.if-can_pick.true in
    let ways : are_ways_fit c.in-Choose.ways.items ≡ true = ap are_ways_fit (sym c.deref-then-can_pick.ensures.value) ∙ c.are_all_fit.ensures h in
    ap is_fit c.in-Choose.is ∙ choose_fit c.in-Choose.line c.in-Choose.ways ∙ both_fit c.in-Choose.ways.items picks ways
