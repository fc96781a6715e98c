use Rattle.std.proofs.Common.{take, false}
use Rattle.set_sums.specs.Internal.Spans.{IsMet}
use Rattle.set_sums.proofs.ranges.are_met.Given as goal

abbrev pub invariant-loop-window : goal.invariant-loop-window
invariant-loop-window l = IsMet (take l.window-index l.windows) l.low l.high false
