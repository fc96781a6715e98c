use Rattle.std.proofs.Common.{◌≡◌, ◌+◌, ◌-◌, ◌%◌, ◌^◌, ◌<◌, ◌≤◌}
use Rattle.set_pieces.proofs.masked.block_shift.Given as goal

abbrev pub invariant-loop-shift : goal.invariant-loop-shift
invariant-loop-shift l = record { divides : l.from % 2 ^ l.shift ≡ 0; fits : l.from + 2 ^ l.shift ≤ l.end; bound : l.shift < 33 }

abbrev pub decreases-loop-shift : goal.decreases-loop-shift
decreases-loop-shift l = 32 - l.shift
