use Rattle.std.proofs.Common.{◌≡◌, ◌&&◌, take}
use Rattle.std.specs.List.{list_any}
use Rattle.fd_prob.specs.declared.problem.Assignment.{Assignment}
use Rattle.fd_prob.specs.Relations.{is_in_row}
use Rattle.fd_prob.proofs.joined.common_rows.Given as goal

abbrev pub invariant-loop-first : goal.invariant-loop-first
invariant-loop-first l = (x : Assignment) → list_any (is_in_row x) l.rows.items ≡ (list_any (is_in_row x) (take l.first-index l.firsts) && list_any (is_in_row x) l.others)
