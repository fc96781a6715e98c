use Rattle.std.proofs.Common.{◌≡◌, ℕ, ◌+◌, ◌-◌, ◌%◌, ◌^◌, ◌<◌, drop}
use Rattle.set_pieces.specs.Internal.Pieces.{times}
use Rattle.dom_set.proofs.lists.shifted.Given as goal

abbrev pub invariant-loop-p : goal.invariant-loop-p
invariant-loop-p l = (y : ℕ) → y < 2 ^ 32 →
    times l.out.items y + times (drop l.p-index l.pieces) ((y + (2 ^ 32 - l.distance)) % 2 ^ 32)
    ≡ times l.pieces ((y + (2 ^ 32 - l.distance)) % 2 ^ 32)
