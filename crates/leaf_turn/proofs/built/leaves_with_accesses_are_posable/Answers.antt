use Rattle.leaf_turn.proofs.Building.{leaves_are_posable}
use Rattle.leaf_turn.proofs.built.leaves_with_accesses_are_posable.Goals as goal

pub returns : goal.returns
returns c = leaves_are_posable
