use Rattle.std.proofs.Common.{◌≡◌, ◌&&◌, ◌||◌, take}
use Rattle.std.specs.List.{list_any}
use Rattle.fd_prob.specs.declared.problem.Assignment.{Assignment}
use Rattle.fd_prob.specs.Relations.{is_in_row}
use Rattle.fd_prob.proofs.joined.push_common.Given as goal

abbrev pub invariant-loop-other : goal.invariant-loop-other
invariant-loop-other l = (x : Assignment) → list_any (is_in_row x) l.rows.items ≡ (list_any (is_in_row x) l.initial.rows.items || (is_in_row x l.first && list_any (is_in_row x) (take l.other-index l.others)))
