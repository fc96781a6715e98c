use Rattle.leaf_link.proofs.Extending.{extras_are_biases, extras_stay}
use Rattle.leaf_link.proofs.bias_laws.extras_are_biases.Goals as goal

pub returns-clause-biases : goal.returns-clause-biases
returns-clause-biases c = extras_are_biases

pub returns-clause-stay : goal.returns-clause-stay
returns-clause-stay c = extras_stay
