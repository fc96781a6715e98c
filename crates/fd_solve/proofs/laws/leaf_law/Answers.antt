use Rattle.fd_solve.proofs.Dropping.{kept_extended, leaf_answers}
use Rattle.fd_solve.proofs.laws.leaf_law.Goals as goal

pub returns-clause-kept : goal.returns-clause-kept
returns-clause-kept c = kept_extended

pub returns-clause-answer : goal.returns-clause-answer
returns-clause-answer c = leaf_answers
