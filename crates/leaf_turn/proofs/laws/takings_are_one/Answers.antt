use Rattle.leaf_turn.proofs.Once.{one_taking}
use Rattle.leaf_turn.proofs.laws.takings_are_one.Goals as goal

pub returns : goal.returns
returns c = one_taking c.played_steps_are_next.ensures
