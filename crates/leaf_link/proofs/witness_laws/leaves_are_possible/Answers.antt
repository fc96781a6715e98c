use Rattle.leaf_link.proofs.Possible.{have_possible}
use Rattle.leaf_link.proofs.witness_laws.leaves_are_possible.Goals as goal

pub returns : goal.returns
returns c = have_possible
