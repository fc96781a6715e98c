use Rattle.turn_laws.proofs.Places.{beside, fixed_parts, known, tests}
use Rattle.turn_laws.proofs.laws.given_places_are_known.Goals as goal

pub returns-clause-known : goal.returns-clause-known
returns-clause-known c = known

pub returns-clause-tests : goal.returns-clause-tests
returns-clause-tests c = tests

pub returns-clause-fixed : goal.returns-clause-fixed
returns-clause-fixed c = fixed_parts

pub returns-clause-others : goal.returns-clause-others
returns-clause-others c = beside
