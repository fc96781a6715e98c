use Rattle.std.proofs.Common.{◌≡◌, ℕ, ◌+◌, ◌*◌, drop}
use Rattle.set_pieces.specs.Internal.Pieces.{times, AreAlive}
use Rattle.dom_set.proofs.combined.common.Given as goal

abbrev pub invariant-loop-p : goal.invariant-loop-p
invariant-loop-p l = record {
  shared : (x : ℕ) → times l.out.items x + times (drop l.p-index l.pieces) x * times l.others x ≡ times l.pieces x * times l.others x;
  alive : AreAlive l.others l.place l.alive.items l.low;
}
