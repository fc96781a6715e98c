use Rattle.fd_solve.proofs.FirstCases.{next_first}
use Rattle.fd_solve.proofs.firsts.cut_firsts.Goals as goal

pub loop-case-preserved : goal.loop-case-preserved
loop-case-preserved c = record {
  cases = c.in_ok-push_first.ensures.cases;
  firsts = next_first c.args.bias.now c.args.cases.now c.loop-case.made.items c.push_first.new.made.items c.loop-case.case-index c.case-item.result c.loop-case-test.true c.case-item.is c.loop-case.invariant.firsts c.in_ok-push_first.ensures.first;
}
