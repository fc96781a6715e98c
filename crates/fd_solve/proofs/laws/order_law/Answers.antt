use Rattle.fd_solve.proofs.StrictOrder.{strict_and_total}
use Rattle.fd_solve.proofs.laws.order_law.Goals as goal

pub returns : goal.returns
returns c = strict_and_total
