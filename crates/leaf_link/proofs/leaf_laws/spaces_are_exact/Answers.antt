use Rattle.leaf_link.proofs.Bounding.{space_is_bounded}
use Rattle.leaf_link.proofs.Spacing.{space_is_exact, pivots_are_exact}
use Rattle.leaf_link.proofs.leaf_laws.spaces_are_exact.Goals as goal

pub returns-clause-space : goal.returns-clause-space
returns-clause-space c = space_is_exact

pub returns-clause-pivots : goal.returns-clause-pivots
returns-clause-pivots c = pivots_are_exact

pub returns-clause-bounded : goal.returns-clause-bounded
returns-clause-bounded c = space_is_bounded
