use Rattle.std.proofs.Common.{take}
use Rattle.near_marks.specs.Internal.Close.{ArePlaced}
use Rattle.near_marks.proofs.close.page_of.Given as goal

abbrev pub invariant-loop-steps : goal.invariant-loop-steps
invariant-loop-steps l = ArePlaced l.page (take l.steps-index l.all) l.fn.low
