use Rattle.std.proofs.Common.{take, ◌+◌, ◌^◌, ◌≤◌}
use Rattle.near_marks.specs.Internal.Near.{IsAroundSteps}
use Rattle.near_marks.proofs.grid.hull.Given as goal

abbrev pub invariant-loop-steps : goal.invariant-loop-steps
invariant-loop-steps l = record { around : IsAroundSteps (take l.steps-index l.all) (l.low, l.high); bound : l.high ≤ 2 ^ 32 + 2048 }
