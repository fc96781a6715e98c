use Rattle.std.proofs.Common.{◌≡◌, ◌+◌, drop}
use Rattle.set_pieces.specs.Counting.{total}
use Rattle.set_pieces.specs.Internal.Pieces.{times}
use Rattle.dom_set.proofs.lists.count_below.Given as goal

abbrev pub invariant-loop-p : goal.invariant-loop-p
invariant-loop-p l = l.count + total (times (drop l.p-index l.pieces)) l.x ≡ total (times l.pieces) l.x
