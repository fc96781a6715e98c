use Rattle.fd_solve.proofs.Answered.{answers_exist, leaf_answers_exist}
use Rattle.fd_solve.proofs.laws.existence_law.Goals as goal

pub returns-clause-answers : goal.returns-clause-answers
returns-clause-answers c = answers_exist

pub returns-clause-leaves : goal.returns-clause-leaves
returns-clause-leaves c = leaf_answers_exist
