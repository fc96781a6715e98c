use Rattle.turn_laws.proofs.Steps.{taken}
use Rattle.turn_laws.proofs.laws.played_steps_are_next.Goals as goal

pub returns : goal.returns
returns c = taken
