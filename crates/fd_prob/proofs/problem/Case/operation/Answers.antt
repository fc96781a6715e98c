use Rattle.fd_prob.proofs.Operations.{read}
use Rattle.fd_prob.proofs.problem.Case.operation.Goals as goal

pub returns : goal.returns
returns c = read c.args.self.now.op c.from.result c.from.ensures c.requires.op
