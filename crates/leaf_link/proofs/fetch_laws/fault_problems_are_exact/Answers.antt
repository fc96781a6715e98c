use Rattle.leaf_link.proofs.FaultFits.{fault_problems_are_exact}
use Rattle.leaf_link.proofs.fetch_laws.fault_problems_are_exact.Goals as goal

pub returns : goal.returns
returns c = fault_problems_are_exact
