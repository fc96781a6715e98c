use Rattle.std.proofs.Common.{◌≡◌, ℕ, ◌+◌, ◌-◌, ◌%◌, ◌^◌, ◌<◌, ◌&&◌, not}
use Rattle.set_pieces.specs.Counting.{one}
use Rattle.set_pieces.specs.Internal.Patterns.{matches_below}
use Rattle.set_pieces.specs.Internal.Runs.{in_run}
use Rattle.set_pieces.specs.Internal.Pieces.{times}
use Rattle.set_pieces.proofs.moved.push_moved_holed.Given as goal

abbrev pub invariant-loop-bit : goal.invariant-loop-bit
invariant-loop-bit l = (y : ℕ) → y < 2 ^ 32 → times l.out.items y ≡ times l.initial.out.items y +
    one (in_run l.run ((y + (2 ^ 32 - l.distance)) % 2 ^ 32) && not (matches_below l.hole l.bit ((y + (2 ^ 32 - l.distance)) % 2 ^ 32)))
