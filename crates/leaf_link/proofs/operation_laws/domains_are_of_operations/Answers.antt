use Rattle.leaf_link.proofs.OfOperations.{domains_are_of_operations}
use Rattle.leaf_link.proofs.operation_laws.domains_are_of_operations.Goals as goal

pub returns : goal.returns
returns c = domains_are_of_operations
