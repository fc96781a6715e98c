use Rattle.leaf_turn.proofs.Playing.{faults_are_playable, fetches_are_enterable, found_are_playable}
use Rattle.leaf_turn.proofs.laws.answers_are_playable.Goals as goal

pub returns-clause-found : goal.returns-clause-found
returns-clause-found c = found_are_playable c.values_are_by_places.ensures.places c.values_are_by_places.ensures.instructions c.steps_are_played.ensures.candidates

pub returns-clause-faults : goal.returns-clause-faults
returns-clause-faults c = faults_are_playable c.entries_are_by_places.ensures.faults c.steps_are_played.ensures.faults

pub returns-clause-fetches : goal.returns-clause-fetches
returns-clause-fetches c = fetches_are_enterable c.entries_are_by_places.ensures.fetches c.entries_are_next.ensures.candidates
