use Rattle.leaf_link.proofs.BiasPossible.{have_kept_bias}
use Rattle.leaf_link.proofs.FetchPossible.{have_answered_fetches}
use Rattle.leaf_link.proofs.witness_laws.answers_are_possible.Goals as goal

pub returns-clause-biases : goal.returns-clause-biases
returns-clause-biases c = have_kept_bias

pub returns-clause-fetches : goal.returns-clause-fetches
returns-clause-fetches c = have_answered_fetches
