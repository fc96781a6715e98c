use Rattle.rv_script.proofs.Wholes.{whole}
use Rattle.rv_script.proofs.laws.answers_are_those_of_whole_states.Goals as goal

pub returns : goal.returns
returns g c = whole
