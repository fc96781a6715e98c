use Rattle.std.proofs.Common.{◌≡◌, ℕ, ◌+◌, cond, drop}
use Rattle.set_pieces.specs.Internal.Pieces.{holds, times, AreAlive}
use Rattle.dom_set.proofs.combined.minus.Given as goal

abbrev pub invariant-loop-p : goal.invariant-loop-p
invariant-loop-p l = record {
  left : (x : ℕ) → times l.out.items x + cond (holds l.others x) 0 (times (drop l.p-index l.pieces) x) ≡ cond (holds l.others x) 0 (times l.pieces x);
  alive : AreAlive l.others l.place l.alive.items l.low;
}
