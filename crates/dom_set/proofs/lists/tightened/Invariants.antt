use Rattle.std.proofs.Common.{◌≡◌, ℕ, ◌+◌, drop}
use Rattle.set_pieces.specs.Internal.Pieces.{times}
use Rattle.dom_set.proofs.lists.tightened.Given as goal

abbrev pub invariant-loop-p : goal.invariant-loop-p
invariant-loop-p l = (x : ℕ) → times l.out.items x + times (drop l.p-index l.pieces) x ≡ times l.pieces x
