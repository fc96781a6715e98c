use Rattle.std.proofs.Common.{◌≤◌}
use Rattle.set_pieces.proofs.masked.roundest.Given as goal

abbrev pub invariant-loop-round : goal.invariant-loop-round
invariant-loop-round l = record { from : l.from ≤ l.round; to : l.round ≤ l.to }

abbrev pub decreases-loop-round : goal.decreases-loop-round
decreases-loop-round l = l.round
