use Rattle.tpl_admit.proofs.Said.{said_decides}
use Rattle.tpl_admit.proofs.laws.said_law.Goals as goal

pub returns : goal.returns
returns c = said_decides c.expansion_law.ensures
