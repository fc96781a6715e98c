use Rattle.leaf_link.proofs.Keeping.{biases_are_kept}
use Rattle.leaf_link.proofs.bias_laws.biases_are_kept.Goals as goal

pub returns : goal.returns
returns c = biases_are_kept
