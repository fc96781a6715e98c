use Rattle.std.proofs.Common.{◌≡◌, ◌+◌, ◌<◌, ◌≤◌, ℕ, List, subst, ap, sym, ◌∙◌, arith}
use Rattle.std.specs.Prelude.{Vec}
use Rattle.std.specs.Global.{Global}
use Rattle.tpl_ast.specs.declared.template.Item.{Item}
use Rattle.tpl_ast.specs.Depths.{size_of_body, size_of_item, size_of_ways}
use Rattle.tpl_ast.specs.Lengths.{length_of_item, longest_body, saturated}
use Rattle.tpl_ast.proofs.Sums.{choose_length, choose_size, item_size, way_size}
use Rattle.tpl_ast.proofs.lengths.+lengths.Goals as goal

pub length_of_item-returns-in-Choose : goal.length_of_item-returns-in-Choose
length_of_item-returns-in-Choose t c =
    let whole : length_of_item c.args.item.now ≡ 1 + longest_body c.in-Choose.ways.items = ap length_of_item c.in-Choose.is ∙ choose_length c.in-Choose.line c.in-Choose.ways in
    let inner : c.longest.result ≡ saturated (longest_body c.in-Choose.ways.items) = c.longest.ensures ∙ ap (λ (ws : List (ℕ × Vec Item Global)). saturated (longest_body ws)) c.deref-in-Choose.ensures.value in
    omega (arith, whole, inner, c.saturating_add.ensures)

pub length-length_of_item-requires : goal.length-length_of_item-requires
length-length_of_item-requires t c =
    let part : size_of_item c.item-item.result ≤ size_of_body c.args.items.now = subst (λ (i : Item). size_of_item i ≤ size_of_body c.args.items.now) (sym c.item-item.is) (item_size c.args.items.now c.loop-item.item-index c.item-item.result c.loop-item-test.true) in
    (omega (arith, part, c.decreases), tt)

pub length_of_item-longest-requires : goal.length_of_item-longest-requires
length_of_item-longest-requires t c =
    let whole : size_of_item c.args.item.now ≡ 1 + size_of_ways c.in-Choose.ways.items = ap size_of_item c.in-Choose.is ∙ choose_size c.in-Choose.line c.in-Choose.ways in
    let part : size_of_ways c.deref-in-Choose.result.now ≡ size_of_ways c.in-Choose.ways.items = ap size_of_ways c.deref-in-Choose.ensures.value in
    (omega (arith, whole, part, c.decreases), tt)

pub longest-length-requires : goal.longest-length-requires
longest-length-requires t c =
    let one : size_of_body c.way-item.result.1.items < size_of_ways c.args.ways.now = subst (λ (w : ℕ × Vec Item Global). size_of_body w.1.items < size_of_ways c.args.ways.now) (sym c.way-item.is) (way_size c.args.ways.now c.loop-way.way-index c.way-item.result c.loop-way-test.true) in
    let part : size_of_body c.deref.result.now ≡ size_of_body c.way-item.result.1.items = ap size_of_body c.deref.ensures.value in
    (omega (arith, one, part, c.decreases), tt)
