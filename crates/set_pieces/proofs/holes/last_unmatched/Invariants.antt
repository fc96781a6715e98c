use Rattle.std.proofs.Common.{◌&&◌, not}
use Rattle.set_pieces.specs.Internal.Patterns.{matches_below}
use Rattle.set_pieces.specs.Internal.Runs.{in_run}
use Rattle.set_pieces.specs.Ends.{IsLast}
use Rattle.set_pieces.proofs.holes.last_unmatched.Given as goal

abbrev pub invariant-loop-bit : goal.invariant-loop-bit
invariant-loop-bit l = IsLast (λ x. in_run l.run x && not (matches_below l.hole l.bit x)) l.furthest
