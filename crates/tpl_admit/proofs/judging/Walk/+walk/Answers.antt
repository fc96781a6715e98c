use Rattle.std.proofs.Common.{◌≡◌, ◌≤◌, ◌+◌, ◌-◌, ℕ, suc, List, ◌∷◌, drop, drop-cons, sym, ap, ◌∙◌, subst, arith}
use Rattle.tpl_ast.specs.declared.template.Item.{Item}
use Rattle.tpl_ast.specs.Depths.{size_of_body, size_of_item, size_of_ways}
use Rattle.tpl_ast.specs.Expansion.{Expanding, expansion_of, expansion_of_item, repeated}
use Rattle.tpl_ast.proofs.Sums.{choose_size, item_size}
use Rattle.tpl_admit.specs.Internal.Walks.{chosen_of, context, through, walked}
use Rattle.tpl_admit.proofs.Expansions.{choose_layout, repeat_layout, through_behind}
use Rattle.tpl_admit.proofs.judging.Walk.+walk.Goals as goal

pub item-choose-requires : goal.item-choose-requires
item-choose-requires t c =
    let whole : size_of_item c.args.item.now ≡ 1 + size_of_ways c.in-Choose.ways.items = ap size_of_item c.in-Choose.is ∙ choose_size c.in-Choose.line c.in-Choose.ways in
    let part : size_of_ways c.deref-in-Choose.result.now ≡ size_of_ways c.in-Choose.ways.items = ap size_of_ways c.deref-in-Choose.ensures.value in
    (omega (arith, whole, part, c.decreases), c.if-is_none.ensures)

pub item-returns-in-Repeat : goal.item-returns-in-Repeat
item-returns-in-Repeat t c =
    c.repeat.ensures
    ∙ ap (λ (x : Expanding). through (context c.args.by.now) x (walked c.args.self.now))
    (ap (λ (b : List Item). repeated c.in-Repeat.times (expansion_of b)) c.deref-in-Repeat.ensures.value ∙ sym (repeat_layout c.in-Repeat.times c.in-Repeat.body) ∙ sym (ap expansion_of_item c.in-Repeat.is))

pub item-returns-in-Choose : goal.item-returns-in-Choose
item-returns-in-Choose t c =
    c.choose.ensures
    ∙ ap (λ (x : Expanding). through (context c.args.by.now) x (walked c.args.self.now))
    (ap chosen_of c.deref-in-Choose.ensures.value ∙ sym (choose_layout c.in-Choose.line c.in-Choose.ways) ∙ sym (ap expansion_of_item c.in-Choose.is))

pub items-item-requires : goal.items-item-requires
items-item-requires t c =
    let part : size_of_item c.item-item.result ≤ size_of_body c.args.items.now = subst (λ (i : Item). size_of_item i ≤ size_of_body c.args.items.now) (sym c.item-item.is) (item_size c.args.items.now c.loop-item.item-index c.item-item.result c.loop-item-test.true) in
    (omega (arith, part, c.decreases), tt)

pub items-loop-item-preserved : goal.items-loop-item-preserved
items-loop-item-preserved t c =
    let by = context c.args.by.now in
    let rest = expansion_of (drop (c.loop-item.item-index + 1) c.args.items.now) in
    let later : suc c.loop-item.item-index ≡ c.loop-item.item-index + 1 = omega arith in
    let here : drop c.loop-item.item-index c.args.items.now ≡ c.item-item.result ∷ drop (c.loop-item.item-index + 1) c.args.items.now =
    drop-cons c.args.items.now c.loop-item.item-index c.item-item.result c.loop-item-test.true
    ∙ (λ i. sym c.item-item.is i ∷ drop (later i) c.args.items.now) in
    ap (through by rest) c.item.ensures
    ∙ sym (through_behind by (expansion_of_item c.item-item.result) rest (walked c.loop-item.self))
    ∙ ap (λ (xs : List Item). through by (expansion_of xs) (walked c.loop-item.self)) (sym here)
    ∙ c.loop-item.invariant

pub repeat-loop-preserved : goal.repeat-loop-preserved
repeat-loop-preserved t c =
    let by = context c.args.by.now in
    let x = expansion_of c.args.body.now in
    let left = c.args.times - (c.loop.counter + 1) in
    let more : c.args.times - c.loop.counter ≡ suc left = omega (arith, c.loop-test.true) in
    record {
      part = omega (arith, c.loop-test.true);
      walk =
          ap (through by (repeated left x)) c.items.ensures
          ∙ sym (through_behind by x (repeated left x) (walked c.loop.self))
          ∙ ap (λ (m : ℕ). through by (repeated m x) (walked c.loop.self)) (sym more)
          ∙ c.loop.invariant.walk;
    }
