use Rattle.rv_script.proofs.Wholes.{more_known}
use Rattle.rv_script.proofs.laws.more_knowledge_changes_nothing.Goals as goal

pub returns : goal.returns
returns g c = more_known
