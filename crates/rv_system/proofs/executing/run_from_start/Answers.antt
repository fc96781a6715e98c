use Rattle.std.proofs.Common.{refl}
use Rattle.tpl_admit.specs.Starts.{first_system}
use Rattle.rv_system.proofs.executing.run_from_start.Goals as goal

pub returns-in-Ok-clause-stopped : goal.returns-in-Ok-clause-stopped
returns-in-Ok-clause-stopped c = λ at is. c.run.ensures.stopped at is (first_system c.args.cert.now) (c.in-Ok.ensures.zero refl)
