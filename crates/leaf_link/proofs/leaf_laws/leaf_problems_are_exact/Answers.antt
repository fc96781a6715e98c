use Rattle.leaf_link.proofs.Every.{leaf_answers_are_exact, leaf_problems_are_exact}
use Rattle.leaf_link.proofs.leaf_laws.leaf_problems_are_exact.Goals as goal

pub returns-clause-problems : goal.returns-clause-problems
returns-clause-problems c = leaf_problems_are_exact

pub returns-clause-answers : goal.returns-clause-answers
returns-clause-answers c = leaf_answers_are_exact
