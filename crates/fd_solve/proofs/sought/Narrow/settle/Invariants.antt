use Rattle.std.proofs.Common.{List}
use Rattle.fd_prob.specs.declared.problem.Case.{Case}
use Rattle.fd_solve.specs.Internal.Equivalent.{AreEquivalent}
use Rattle.fd_solve.proofs.sought.Narrow.settle.Given as goal

abbrev pub invariant-loop-place : goal.invariant-loop-place
invariant-loop-place l = (cases : List Case) → AreEquivalent cases l.initial.self → AreEquivalent cases l.self
