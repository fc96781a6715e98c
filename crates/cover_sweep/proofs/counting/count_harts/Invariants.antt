use Rattle.std.proofs.Common.{take}
use Rattle.cover_sweep.proofs.Times.{AreUpBy}
use Rattle.cover_sweep.proofs.counting.count_harts.Given as goal

abbrev pub invariant-loop-trace : goal.invariant-loop-trace
invariant-loop-trace l = AreUpBy l.initial.totals l.totals (take l.trace-index l.traces)
