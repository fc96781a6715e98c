use Rattle.fd_solve.specs.Internal.Marks.{begun_of}
use Rattle.fd_solve.specs.Internal.Equivalent.{AreEquivalent}
use Rattle.fd_solve.proofs.sought.Narrow.refuse.Given as goal

abbrev pub invariant-loop-place : goal.invariant-loop-place
invariant-loop-place l = AreEquivalent (begun_of l.marked).cases l.self
