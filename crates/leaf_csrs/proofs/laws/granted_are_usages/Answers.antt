use Rattle.leaf_csrs.proofs.Using.{granted_are_usages, usages_are_granted}
use Rattle.leaf_csrs.proofs.laws.granted_are_usages.Goals as goal

pub returns-clause-there : goal.returns-clause-there
returns-clause-there c = usages_are_granted

pub returns-clause-back : goal.returns-clause-back
returns-clause-back c = granted_are_usages
