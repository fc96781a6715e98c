use Rattle.std.proofs.Common.{List, ◌++◌, drop}
use Rattle.fd_prob.specs.declared.problem.Case.{Case}
use Rattle.fd_solve.specs.Internal.Equivalent.{AreEquivalent}
use Rattle.fd_solve.proofs.sought.Narrow.of.Given as goal

abbrev pub invariant-loop-case : goal.invariant-loop-case
invariant-loop-case l = (rest : List Case) → AreEquivalent (drop l.case-index l.cases) rest → AreEquivalent l.cases (l.made.items ++ rest)
