use Rattle.leaf_link.proofs.Loads.{loads_are_exact}
use Rattle.leaf_link.proofs.Stores.{stores_are_exact}
use Rattle.leaf_link.proofs.Csrs.{csrs_are_exact}
use Rattle.leaf_link.proofs.Returning.{returns_are_exact}
use Rattle.leaf_link.proofs.operation_laws.accesses_are_exact.Goals as goal

pub returns-clause-loads : goal.returns-clause-loads
returns-clause-loads c = loads_are_exact

pub returns-clause-stores : goal.returns-clause-stores
returns-clause-stores c = stores_are_exact

pub returns-clause-csrs : goal.returns-clause-csrs
returns-clause-csrs c = csrs_are_exact

pub returns-clause-returned : goal.returns-clause-returned
returns-clause-returned c = returns_are_exact
