use Rattle.std.proofs.Common.{take}
use Rattle.cover_sweep.proofs.Times.{AreUp}
use Rattle.cover_sweep.proofs.counting.count_hart.Given as goal

abbrev pub invariant-loop-done : goal.invariant-loop-done
invariant-loop-done l = AreUp l.initial.totals l.totals (take l.done-index l.trace)
