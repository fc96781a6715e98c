use Rattle.std.proofs.Common.{◌≡◌, ◌+◌, ◌-◌, ◌*◌, ◌≤◌, drop}
use Rattle.tpl_ast.specs.Depths.{size_of_body, size_of_item, size_of_ways}
use Rattle.tpl_ast.specs.Expansion.{expansion_of, repeated}
use Rattle.tpl_admit.specs.Internal.Walks.{context, through, walked}
use Rattle.tpl_admit.proofs.judging.Walk.+walk.Given as goal

abbrev pub decreases-items : goal.decreases-items
decreases-items l = 4 * size_of_body l.items.now + 1

abbrev pub decreases-item : goal.decreases-item
decreases-item l = 4 * size_of_item l.item.now

abbrev pub decreases-repeat : goal.decreases-repeat
decreases-repeat l = 4 * size_of_body l.body.now + 2

abbrev pub decreases-choose : goal.decreases-choose
decreases-choose l = 4 * size_of_ways l.ways.now + 1

abbrev pub invariant-items-loop-item : goal.invariant-items-loop-item
invariant-items-loop-item l = through (context l.by) (expansion_of (drop l.item-index l.items)) (walked l.self) ≡ through (context l.by) (expansion_of l.items) (walked l.initial.self)

abbrev pub invariant-repeat-loop : goal.invariant-repeat-loop
invariant-repeat-loop l = record {
  part : l.counter ≤ l.times;
  walk : through (context l.by) (repeated (l.times - l.counter) (expansion_of l.body)) (walked l.self) ≡ through (context l.by) (repeated l.times (expansion_of l.body)) (walked l.initial.self);
}
