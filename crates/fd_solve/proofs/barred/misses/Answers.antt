use Rattle.fd_solve.proofs.Barring.{missed}
use Rattle.fd_solve.proofs.barred.misses.Goals as goal

pub returns : goal.returns
returns c on x within = missed c.args.case.now x c.args.slot c.args.set.now c.domain.result.now c.in_ok-both.both c.domain.ensures c.in_ok-both.ensures (c.is_empty.ensures.0 on) within
