use Rattle.std.proofs.Common.{◌≡◌, ℕ, ◌+◌, ◌&&◌}
use Rattle.set_pieces.specs.Counting.{one}
use Rattle.set_pieces.specs.Internal.Patterns.{matches_below}
use Rattle.set_pieces.specs.Internal.Pieces.{in_piece, times}
use Rattle.set_pieces.proofs.parts.push_missed.Given as goal

abbrev pub invariant-loop-bit : goal.invariant-loop-bit
invariant-loop-bit l = (x : ℕ) →
    times l.out.items x + one (in_piece l.p x && matches_below l.pattern l.bit x)
    ≡ times l.initial.out.items x + one (in_piece l.p x)
