use Rattle.std.proofs.Common.{◌≡◌, ℕ, ◌+◌, ◌*◌, drop}
use Rattle.set_pieces.specs.Counting.{one}
use Rattle.set_pieces.specs.Internal.Pieces.{in_piece, times}
use Rattle.dom_set.proofs.combined.push_common.Given as goal

abbrev pub invariant-loop-i : goal.invariant-loop-i
invariant-loop-i l = (x : ℕ) →
    times l.out.items x + one (in_piece l.p x) * times (drop l.i l.others) x
    ≡ times l.initial.out.items x + one (in_piece l.p x) * times (drop l.place l.others) x
