use Rattle.leaf_turn.proofs.Finding.{answers_are_found}
use Rattle.leaf_turn.proofs.laws.answers_are_found.Goals as goal

pub returns : goal.returns
returns c = answers_are_found
