use Rattle.std.proofs.Common.{take}
use Rattle.near_marks.specs.Internal.Close.{AreTurnedOfAll}
use Rattle.near_marks.proofs.close.turned_page.Given as goal

abbrev pub invariant-loop-steps : goal.invariant-loop-steps
invariant-loop-steps l = AreTurnedOfAll l.page (take l.steps-index l.all) l.fn.low
