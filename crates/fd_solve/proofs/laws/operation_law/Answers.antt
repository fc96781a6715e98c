use Rattle.std.proofs.Common.{refl}
use Rattle.fd_solve.proofs.laws.operation_law.Goals as goal

pub returns : goal.returns
returns c = refl
