use Rattle.rv_hart.proofs.Steps.{takes}
use Rattle.rv_hart.proofs.laws.step_law.Goals as goal

pub returns : goal.returns
returns c = takes
