use Rattle.std.proofs.Common.{◌≡◌, ℕ, ◌+◌, ◌≤◌, cond, drop}
use Rattle.set_pieces.specs.Counting.{one}
use Rattle.set_pieces.specs.Internal.Pieces.{in_piece, holds, times}
use Rattle.dom_set.proofs.combined.push_left.Given as goal

abbrev pub invariant-loop-i : goal.invariant-loop-i
invariant-loop-i l = record {
  all : (x : ℕ) → times l.out.items x + cond (holds (drop l.i l.others) x) 0 (times l.left.items x) ≡ times l.initial.out.items x + cond (holds (drop l.place l.others) x) 0 (times l.fn.first.items x);
  within : (x : ℕ) → times l.left.items x ≤ one (in_piece l.p x);
}
