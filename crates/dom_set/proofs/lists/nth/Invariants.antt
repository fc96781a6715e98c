use Rattle.std.proofs.Common.{◌-◌, ◌^◌, ◌<◌, ◌≤◌}
use Rattle.set_pieces.specs.Counting.{total}
use Rattle.set_pieces.specs.Internal.Pieces.{times}
use Rattle.dom_set.proofs.lists.nth.Given as goal

abbrev pub invariant-loop-end : goal.invariant-loop-end
invariant-loop-end l = record {
  ordered : l.low < l.end;
  fits : l.end ≤ 2 ^ 32;
  low : total (times l.pieces) l.low ≤ l.n;
  high : l.n < total (times l.pieces) l.end;
}

abbrev pub decreases-loop-end : goal.decreases-loop-end
decreases-loop-end l = l.end - l.low
