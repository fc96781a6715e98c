use Rattle.std.proofs.Common.{All}
use Rattle.fd_prob.specs.Fitting.{IsCase}
use Rattle.solver_rows.proofs.posed.cases.Given as goal

abbrev pub invariant-loop : goal.invariant-loop
invariant-loop l = All IsCase l.cases.items
