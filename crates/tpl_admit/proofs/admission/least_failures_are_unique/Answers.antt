use Rattle.tpl_admit.proofs.Failures.{one_least}
use Rattle.tpl_admit.proofs.admission.least_failures_are_unique.Goals as goal

pub returns-clause-one : goal.returns-clause-one
returns-clause-one c = one_least
