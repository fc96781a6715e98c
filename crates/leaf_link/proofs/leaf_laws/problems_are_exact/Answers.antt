use Rattle.leaf_link.proofs.Whole.{answers_are_exact, problem_is_exact}
use Rattle.leaf_link.proofs.leaf_laws.problems_are_exact.Goals as goal

pub returns-clause-problem : goal.returns-clause-problem
returns-clause-problem c = problem_is_exact

pub returns-clause-answers : goal.returns-clause-answers
returns-clause-answers c = answers_are_exact
