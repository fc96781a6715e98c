use Rattle.leaf_link.proofs.Operations.{exact}
use Rattle.leaf_link.proofs.operation_laws.ways_are_exact.Goals as goal

pub returns : goal.returns
returns c = exact
