use Rattle.std.proofs.Common.{refl}
use Rattle.replay_check.proofs.Verdicts.{valid, first_of_template}
use Rattle.replay_check.proofs.checking.unfit.Goals as goal

pub returns-in-Some-admits-clause-some : goal.returns-in-Some-admits-clause-some
returns-in-Some-admits-clause-some c =
    let u = c.in-Some-admits.unmet in
    first_of_template c.args.cert.now u.hart u.step u.atom c.requires.replayed (c.in_ok-hart.ensures.none c.in_default.is) (c.in-Some-admits.ensures.some u refl)

pub returns-clause-none : goal.returns-clause-none
returns-clause-none c = λ none.
    valid c.args.cert.now c.requires.well_formed c.requires.replayed (c.in_ok-hart.ensures.none c.in_default.is) (c.admits.ensures.none c.in_default-admits.is)
