use Rattle.leaf_link.proofs.Biases.{biases_are_atoms}
use Rattle.leaf_link.proofs.bias_laws.biases_are_atoms.Goals as goal

pub returns : goal.returns
returns c = biases_are_atoms
