use Rattle.leaf_link.proofs.Named.{leaves_are_true}
use Rattle.leaf_link.proofs.truth_laws.leaves_are_true.Goals as goal

pub returns : goal.returns
returns c = leaves_are_true
