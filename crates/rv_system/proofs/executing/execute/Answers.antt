use Rattle.std.proofs.Common.{Err, ap}
use Rattle.tpl_admit.specs.Starts.{first_system}
use Rattle.rv_system.proofs.Running.{before_stops}
use Rattle.rv_system.proofs.executing.execute.Goals as goal

pub unreachable-requires : goal.unreachable-requires
unreachable-requires c =
    before_stops c.args.schedule.now (first_system c.args.cert.now) c.in-Err-Outside.at c.in-Err-Outside-run_from_start.field-0-0
    (c.in-Err-Outside.ensures.stopped c.in-Err-Outside.at (ap (λ e. Err e) c.in-Err-Outside.field-0-is))
    (c.in-Err-Outside-run_from_start.ensures.stopped c.in-Err-Outside-run_from_start.field-0-0 (ap (λ e. Err e) c.in-Err-Outside-run_from_start.field-0-is))
