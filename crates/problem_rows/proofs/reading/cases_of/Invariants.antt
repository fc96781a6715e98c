use Rattle.std.proofs.Common.{All}
use Rattle.fd_prob.specs.Fitting.{IsCase}
use Rattle.problem_rows.proofs.reading.cases_of.Given as goal

abbrev pub invariant-loop-one : goal.invariant-loop-one
invariant-loop-one l = All IsCase l.cases.items
