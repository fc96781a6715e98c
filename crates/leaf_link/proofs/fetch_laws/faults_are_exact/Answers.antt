use Rattle.leaf_link.proofs.Failing.{faults_are_exact}
use Rattle.leaf_link.proofs.fetch_laws.faults_are_exact.Goals as goal

pub returns : goal.returns
returns c = faults_are_exact
