use Rattle.std.proofs.Common.{take}
use Rattle.set_pieces.specs.Internal.Pieces.{holds}
use Rattle.set_pieces.specs.Ends.{IsFirstFrom}
use Rattle.dom_set.proofs.lists.first_from.Given as goal

abbrev pub invariant-loop-p : goal.invariant-loop-p
invariant-loop-p l = IsFirstFrom (holds (take l.p-index l.pieces)) l.from l.nearest
