use Rattle.std.proofs.Common.{◌≡◌, ◌+◌, ◌*◌, ◌<◌, ◌^◌, max, drop}
use Rattle.tpl_ast.specs.Depths.{size_of_body, size_of_item, size_of_ways}
use Rattle.tpl_ast.specs.Lengths.{length_of_body, longest_body, saturated}
use Rattle.tpl_ast.proofs.lengths.+lengths.Given as goal

abbrev pub invariant-length-loop-item : goal.invariant-length-loop-item
invariant-length-loop-item l = record {
  value : saturated (l.sum + length_of_body (drop l.item-index l.items)) ≡ saturated (length_of_body l.items);
  fits : l.sum < 2 ^ 64;
}

abbrev pub invariant-longest-loop-way : goal.invariant-longest-loop-way
invariant-longest-loop-way l = record {
  value : saturated (max l.most (longest_body (drop l.way-index l.ways))) ≡ saturated (longest_body l.ways);
  fits : l.most < 2 ^ 64;
}

abbrev pub decreases-length : goal.decreases-length
decreases-length l = 2 * size_of_body l.items.now + 1

abbrev pub decreases-longest : goal.decreases-longest
decreases-longest l = 2 * size_of_ways l.ways.now + 1

abbrev pub decreases-length_of_item : goal.decreases-length_of_item
decreases-length_of_item l = 2 * size_of_item l.item.now
