use Rattle.std.proofs.Common.{◌≡◌, drop}
use Rattle.std.specs.List.{list_any}
use Rattle.fd_prob.specs.Relations.{is_in_row}
use Rattle.fd_prob.proofs.relation.is_in_any_row.Given as goal

abbrev pub invariant-loop-row : goal.invariant-loop-row
invariant-loop-row l = list_any (is_in_row l.x) (drop l.row-index l.rows) ≡ list_any (is_in_row l.x) l.rows
