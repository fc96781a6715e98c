use Rattle.leaf_csrs.proofs.Refusing.{denied_are_refused, refused_are_denied}
use Rattle.leaf_csrs.proofs.laws.denied_are_refused.Goals as goal

pub returns-clause-there : goal.returns-clause-there
returns-clause-there c = refused_are_denied

pub returns-clause-back : goal.returns-clause-back
returns-clause-back c = denied_are_refused
