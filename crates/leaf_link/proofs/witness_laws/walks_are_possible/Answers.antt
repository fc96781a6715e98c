use Rattle.leaf_link.proofs.HaveWalks.{have_walks}
use Rattle.leaf_link.proofs.witness_laws.walks_are_possible.Goals as goal

pub returns : goal.returns
returns c = have_walks
