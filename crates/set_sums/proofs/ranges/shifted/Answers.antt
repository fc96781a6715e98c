use Rattle.set_sums.proofs.Spans.{shifted_has}
use Rattle.set_sums.proofs.ranges.shifted.Goals as goal

pub returns : goal.returns
returns c = shifted_has c.set_laws.ensures.pass c.set_laws.ensures.tests c.args.set.now c.in_ok-shifted.shifted c.args.distance c.in_ok-shifted.ensures
