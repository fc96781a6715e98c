use Rattle.leaf_link.proofs.Unfailing.{steps_are_fetched}
use Rattle.leaf_link.proofs.truth_laws.steps_are_fetched.Goals as goal

pub returns : goal.returns
returns c = steps_are_fetched
