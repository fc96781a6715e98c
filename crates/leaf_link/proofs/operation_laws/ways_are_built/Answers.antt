use Rattle.leaf_link.proofs.Every.{every_op, ways_are_built}
use Rattle.leaf_link.proofs.operation_laws.ways_are_built.Goals as goal

pub returns-clause-plain : goal.returns-clause-plain
returns-clause-plain c = ways_are_built

pub returns-clause-all : goal.returns-clause-all
returns-clause-all c = every_op
