use Rattle.std.proofs.Common.{◌≡◌, ◌+◌, ◌*◌, drop, map, true}
use Rattle.tpl_ast.specs.Depths.{size_of_body, size_of_item, size_of_ways}
use Rattle.tpl_ast.specs.Choices.{all_true, are_ways_fit, is_fit}
use Rattle.search_tests.proofs.fits.+fits.Given as goal

abbrev pub invariant-is_body_fit-loop-item : goal.invariant-is_body_fit-loop-item
invariant-is_body_fit-loop-item l = all_true (map is_fit (drop l.item-index l.items)) ≡ true → all_true (map is_fit l.items) ≡ true

abbrev pub invariant-are_all_fit-loop-way : goal.invariant-are_all_fit-loop-way
invariant-are_all_fit-loop-way l = are_ways_fit (drop l.way-index l.ways) ≡ true → are_ways_fit l.ways ≡ true

abbrev pub decreases-is_body_fit : goal.decreases-is_body_fit
decreases-is_body_fit l = 2 * size_of_body l.items.now + 1

abbrev pub decreases-are_all_fit : goal.decreases-are_all_fit
decreases-are_all_fit l = 2 * size_of_ways l.ways.now + 1

abbrev pub decreases-is_item_fit : goal.decreases-is_item_fit
decreases-is_item_fit l = 2 * size_of_item l.item.now
