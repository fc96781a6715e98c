use Rattle.turn_laws.proofs.Back.{of_candidate}
use Rattle.turn_laws.proofs.laws.steps_are_of_candidates.Goals as goal

pub returns : goal.returns
returns c = of_candidate
