use Rattle.std.proofs.Common.{◌+◌, List, ◌++◌, sym, subst, arith, drop}
use Rattle.fd_prob.specs.declared.problem.Case.{Case}
use Rattle.fd_prob.specs.Fitting.{IsCase}
use Rattle.fd_solve.specs.Internal.Equivalent.{AreEquivalent}
use Rattle.fd_solve.proofs.Equivalence.{all_made, itself, one_more}
use Rattle.fd_solve.proofs.sought.Narrow.of.Goals as goal

pub loop-case-preserved : goal.loop-case-preserved
loop-case-preserved c =
    let cases = c.args.cases.now in
    let case = c.case-item.result in
    subst (λ (ds : List Case). (rest : List Case) → AreEquivalent (drop (c.loop-case.case-index + 1) cases) rest → AreEquivalent cases (ds ++ rest)) (sym c.in_ok-push.ensures.items)
    (one_more cases c.loop-case.made.items c.loop-case.case-index case c.in_ok-copy.field-0 c.loop-case-test.true c.case-item.is
    (itself case c.in_ok-copy.field-0 (subst IsCase (sym c.case-item.is) (c.requires c.loop-case.case-index case c.loop-case-test.true)) c.in_ok-copy.ensures) c.loop-case.invariant)

pub returns : goal.returns
returns c = all_made c.args.cases.now c.loop-case.made.items c.loop-case.case-index (omega (arith, c.loop-case-test.false)) c.loop-case.invariant
