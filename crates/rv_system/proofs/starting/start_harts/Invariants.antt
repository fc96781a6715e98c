use Rattle.rv_system.proofs.Starts.{AreFilledTo}
use Rattle.rv_system.proofs.starting.start_harts.Given as goal

abbrev pub invariant-loop-k : goal.invariant-loop-k
invariant-loop-k l = AreFilledTo l.cert l.fill l.k l.harts.items
