use Rattle.rv_system.proofs.Law.{faithful}
use Rattle.tpl_admit.specs.Validity.{IsValid}
use Rattle.replay_check.proofs.checking.check.Goals as goal

pub returns-in-None-clause-faithful : goal.returns-in-None-clause-faithful
returns-in-None-clause-faithful c = λ yes.
    let v : IsValid c.args.cert.now = c.in_ok-first_failure.ensures.none c.in-None.is in
    faithful c.args.cert.now v.sound
