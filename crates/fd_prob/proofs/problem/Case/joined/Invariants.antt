use Rattle.std.proofs.Common.{◌≡◌, take}
use Rattle.std.specs.Prelude.{count_by}
use Rattle.fd_prob.specs.Joining.{is_rows}
use Rattle.std.specs.List.{list_all}
use Rattle.rv_isa.specs.declared.operation.Op.{Op}
use Rattle.fd_prob.specs.declared.problem.Assignment.{Assignment}
use Rattle.fd_prob.specs.Internal.Joined.{all_hold}
use Rattle.fd_prob.specs.Relations.{holds}
use Rattle.fd_prob.proofs.problem.Case.joined.Given as goal

abbrev pub invariant-loop-rel : goal.invariant-loop-rel
invariant-loop-rel l = ((op : Op) (x : Assignment) → all_hold op x l.joined ≡ list_all (holds op x) (take l.rel-index l.rel-items)) × (count_by is_rows l.joined.rels ≡ 0)
