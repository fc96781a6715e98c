use Rattle.leaf_stand.proofs.Compared.{between}
use Rattle.leaf_stand.proofs.laws.leaves_are_between.Goals as goal

pub returns : goal.returns
returns c = between
