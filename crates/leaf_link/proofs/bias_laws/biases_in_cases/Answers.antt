use Rattle.leaf_link.proofs.Casing.{addresses_are_wanted, biases_in_cases}
use Rattle.leaf_link.proofs.bias_laws.biases_in_cases.Goals as goal

pub returns-clause-biases : goal.returns-clause-biases
returns-clause-biases c = biases_in_cases

pub returns-clause-addresses : goal.returns-clause-addresses
returns-clause-addresses c = addresses_are_wanted
