use Rattle.leaf_link.proofs.Turning.{firsts_hold_nothing, turn_answers_are_exact}
use Rattle.leaf_link.proofs.leaf_laws.turn_answers_are_exact.Goals as goal

pub returns-clause-firsts : goal.returns-clause-firsts
returns-clause-firsts c = firsts_hold_nothing

pub returns-clause-answers : goal.returns-clause-answers
returns-clause-answers c = turn_answers_are_exact
