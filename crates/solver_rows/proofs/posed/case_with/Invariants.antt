use Rattle.std.proofs.Common.{◌≡◌, length}
use Rattle.solver_rows.proofs.posed.case_with.Given as goal

abbrev pub invariant-loop : goal.invariant-loop
invariant-loop l = length l.doms.items ≡ l.index
