use Rattle.turn_laws.proofs.Played.{candidate_played, fault_played}
use Rattle.turn_laws.proofs.laws.steps_are_played.Goals as goal

pub returns-clause-candidates : goal.returns-clause-candidates
returns-clause-candidates c = candidate_played

pub returns-clause-faults : goal.returns-clause-faults
returns-clause-faults c = fault_played
