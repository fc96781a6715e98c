use Rattle.std.proofs.Common.{◌≡◌, ℕ, cond, drop}
use Rattle.set_pieces.specs.Counting.{one}
use Rattle.set_pieces.specs.Internal.Pieces.{in_piece, holds, times}
use Rattle.dom_set.proofs.combined.left_of.Given as goal

abbrev pub invariant-loop-q : goal.invariant-loop-q
invariant-loop-q l = (x : ℕ) → cond (holds (drop l.q-index l.others) x) 0 (times l.left.items x) ≡ cond (holds l.others x) 0 (one (in_piece l.fn.p x))
