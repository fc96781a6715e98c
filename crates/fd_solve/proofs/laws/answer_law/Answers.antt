use Rattle.fd_solve.proofs.OneAnswer.{one_answer}
use Rattle.fd_solve.proofs.laws.answer_law.Goals as goal

pub returns-clause-one : goal.returns-clause-one
returns-clause-one c nodes = one_answer c.args.p.now nodes c.pivots_are_words.ensures
