use Rattle.std.proofs.Common.{◌≡◌, ℕ, false, take}
use Rattle.std.specs.List.{list_all, list_any}
use Rattle.rv_isa.specs.declared.operation.Op.{Op}
use Rattle.fd_prob.specs.declared.problem.Assignment.{Assignment}
use Rattle.fd_prob.specs.Relations.{holds}
use Rattle.case_search.specs.Internal.Stronger.{is_elsewhere}
use Rattle.case_search.specs.Internal.Targets.{IsGathered, all_hold}
use Rattle.case_search.proofs.targets.with_one_target.Given as goal

abbrev pub invariant-loop-rel : goal.invariant-loop-rel
invariant-loop-rel l = record {
  holds : (op : Op) (x : Assignment) → all_hold op x l.targets ≡ list_all (holds op x) (take l.rel-index l.rels);
  gathered : (pc : ℕ) → list_any (is_elsewhere pc) (take l.rel-index l.rels) ≡ false → IsGathered pc l.targets;
}
