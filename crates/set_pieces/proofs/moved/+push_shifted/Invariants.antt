use Rattle.std.proofs.Common.{ℕ, ◌-◌, ◌^◌, Option, Some, None}
use Rattle.set_pieces.specs.declared.run.Run.{Run}
use Rattle.set_pieces.proofs.moved.+push_shifted.Given as goal

abbrev left : Option Run → ℕ
left None = 0
left (Some p) = 2 ^ 32 - p.pattern.mask

abbrev pub decreases-push_shifted : goal.decreases-push_shifted
decreases-push_shifted l = left l.run
