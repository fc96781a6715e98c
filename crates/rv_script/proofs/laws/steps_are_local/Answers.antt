use Rattle.rv_script.proofs.Local.{local}
use Rattle.rv_script.proofs.laws.steps_are_local.Goals as goal

pub returns : goal.returns
returns g c = local
