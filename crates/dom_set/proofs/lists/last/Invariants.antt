use Rattle.std.proofs.Common.{take}
use Rattle.set_pieces.specs.Internal.Pieces.{holds}
use Rattle.set_pieces.specs.Ends.{IsLast}
use Rattle.dom_set.proofs.lists.last.Given as goal

abbrev pub invariant-loop-p : goal.invariant-loop-p
invariant-loop-p l = IsLast (holds (take l.p-index l.pieces)) l.furthest
