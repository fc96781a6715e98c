use Rattle.std.proofs.Common.{◌≡◌, ℕ, ◌+◌, ◌-◌, ◌%◌, ◌^◌, ◌<◌, ◌&&◌, nat_lt}
use Rattle.set_pieces.specs.Counting.{one}
use Rattle.set_pieces.specs.Internal.Runs.{in_run}
use Rattle.set_pieces.specs.Internal.Pieces.{times}
use Rattle.set_pieces.proofs.moved.push_blocks.Given as goal

abbrev pub invariant-loop-from : goal.invariant-loop-from
invariant-loop-from l = (y : ℕ) → y < 2 ^ 32 → times l.out.items y ≡ times l.initial.out.items y +
    one (in_run l.p ((y + (2 ^ 32 - l.distance)) % 2 ^ 32) && nat_lt ((y + (2 ^ 32 - l.distance)) % 2 ^ 32) l.from)

abbrev pub decreases-loop-from : goal.decreases-loop-from
decreases-loop-from l = l.p.high + 1 - l.from
