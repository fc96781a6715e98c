use Rattle.std.proofs.Common.{take}
use Rattle.std.specs.Prelude.{IsTrue}
use Rattle.std.specs.List.{list_any}
use Rattle.fd_prob.specs.Relations.{is_in_row}
use Rattle.fd_prob.specs.declared.problem.Assignment.{Assignment}
use Rattle.fd_narrow.specs.Narrowing.{IsInside}
use Rattle.fd_narrow.proofs.RowParts.{HoldsOnly}
use Rattle.fd_narrow.proofs.domains.Domains.only_possible.Given as goal

abbrev pub invariant-loop-row : goal.invariant-loop-row
invariant-loop-row l = (x : Assignment) → IsInside l.self x → IsTrue (list_any (is_in_row x) (take l.row-index l.rows)) → HoldsOnly l.only x
