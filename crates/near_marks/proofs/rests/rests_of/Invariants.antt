use Rattle.std.proofs.Common.{take}
use Rattle.near_marks.specs.Internal.Rests.{HaveRests}
use Rattle.near_marks.proofs.rests.rests_of.Given as goal

abbrev pub invariant-loop-steps : goal.invariant-loop-steps
invariant-loop-steps l = HaveRests l.rests (take l.steps-index l.all)
