use Rattle.gen_turn.proofs.Agreeing.{has_one_answer}
use Rattle.gen_turn.proofs.Staying.{still_allows}
use Rattle.gen_turn.proofs.laws.turns_have_one_answer.Goals as goal

pub returns-clause-one : goal.returns-clause-one
returns-clause-one c =
    has_one_answer c.turns_have_one_answer.ensures.leaves c.fetches_have_one_answer.ensures.fetches c.fetches_have_one_answer.ensures.faults c.takings_are_one.ensures c.answers_are_found.ensures
    c.answers_are_playable.ensures.found c.answers_are_playable.ensures.faults

pub returns-clause-still : goal.returns-clause-still
returns-clause-still c = still_allows c.given_places_are_known.ensures.others
