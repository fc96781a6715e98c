use Rattle.std.proofs.Common.{◌≡◌, ℕ, ◌+◌, ◌≤◌, cond, drop, IsTrue}
use Rattle.set_pieces.specs.Internal.Pieces.{in_piece, times}
use Rattle.dom_set.proofs.combined.left_behind.Given as goal

abbrev pub invariant-loop-p : goal.invariant-loop-p
invariant-loop-p l = record {
  all : (x : ℕ) → times l.done.items x + times l.rest.items x + cond (in_piece l.q x) 0 (times (drop l.p-index l.pieces) x) ≡ times l.initial.done.items x + cond (in_piece l.q x) 0 (times l.pieces x);
  before : (x : ℕ) → (IsTrue l.ascending → l.q.run.low ≤ x) → times l.done.items x ≡ times l.initial.done.items x;
  within : (x : ℕ) → times l.rest.items x + times (drop l.p-index l.pieces) x ≤ times l.pieces x;
}
