use Rattle.leaf_link.proofs.Admitting.{met_are_true}
use Rattle.leaf_link.proofs.truth_laws.met_atoms_are_true.Goals as goal

pub returns : goal.returns
returns c = met_are_true
