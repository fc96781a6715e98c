use Rattle.std.proofs.Common.{◌≡◌, ℕ, true, bit_and, take}
use Rattle.set_pieces.specs.Internal.Pieces.{holds}
use Rattle.dom_set.proofs.lists.bits_under.Given as goal

abbrev pub invariant-loop-p : goal.invariant-loop-p
invariant-loop-p l = (x : ℕ) → holds (take l.p-index l.pieces) x ≡ true → bit_and x l.mask ≡ l.bits
