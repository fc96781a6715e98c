use Rattle.std.proofs.Common.{◌≡◌, drop, length}
use Rattle.fd_prob.specs.Extras.{cut_by_all}
use Rattle.case_search.proofs.extended.cut_by_all.Given as goal

abbrev pub invariant-loop-slot : goal.invariant-loop-slot
invariant-loop-slot l = record {
  long : length l.doms.items ≡ 14;
  rest : cut_by_all (drop l.slot-index l.cuts) l.doms.items ≡ cut_by_all l.cuts l.initial.doms.items;
}
