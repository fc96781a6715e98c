use Rattle.leaf_link.proofs.Heading.{firsts_exist}
use Rattle.leaf_link.proofs.leaf_laws.firsts_exist.Goals as goal

pub returns : goal.returns
returns c = firsts_exist
