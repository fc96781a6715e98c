use Rattle.std.proofs.Common.{List, sym, subst}
use Rattle.fd_prob.specs.declared.problem.Case.{Case}
use Rattle.fd_solve.specs.Internal.Equivalent.{AreEquivalent, StandFor}
use Rattle.fd_solve.proofs.Equivalence.{all_itself}
use Rattle.fd_solve.proofs.sought.sought_of.Goals as goal

pub returns-in-Some : goal.returns-in-Some
returns-in-Some c cases own stand = subst (AreEquivalent cases) (sym c.cases.ensures) (subst (StandFor cases) c.in-Some.is stand)

pub returns-in-None : goal.returns-in-None
returns-in-None c cases own stand =
    subst (λ (cs : List Case). AreEquivalent cs c.as_slice.result.now) (sym (own c.in-None.is)) (subst (AreEquivalent c.args.p.now.cases) (sym c.as_slice.ensures) (all_itself c.args.p.now.cases c.requires))
