use Rattle.std.proofs.Common.{◌≡◌, true, drop}
use Rattle.std.specs.List.{list_any}
use Rattle.fd_prob.specs.declared.problem.Assignment.{Assignment}
use Rattle.fd_prob.specs.Fitting.{is_within}
use Rattle.fd_prob.specs.Relations.{is_in_row}
use Rattle.fd_solve.proofs.barred.are_rows_off.Given as goal

abbrev pub invariant-loop-row : goal.invariant-loop-row
invariant-loop-row l = (x : Assignment) → is_within l.case x ≡ true → list_any (is_in_row x) (drop l.row-index l.rows) ≡ list_any (is_in_row x) l.rows
