use Rattle.std.proofs.Common.{◌≡◌, ℕ, ◌+◌, cond, drop}
use Rattle.set_pieces.specs.Internal.Pieces.{in_piece, times}
use Rattle.dom_set.proofs.combined.without.Given as goal

abbrev pub invariant-loop-p : goal.invariant-loop-p
invariant-loop-p l = (x : ℕ) →
    times l.out.items x + cond (in_piece l.q x) 0 (times (drop l.p-index l.pieces) x)
    ≡ cond (in_piece l.q x) 0 (times l.pieces x)
