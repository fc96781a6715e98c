use Rattle.set_sums.proofs.Quarters.{in_class}
use Rattle.set_sums.proofs.remainders.leaves.Goals as goal

pub returns : goal.returns
returns c = λ v inside left. c.in_ok-some.ensures v inside (in_class c.set_laws.ensures.pass c.set_laws.ensures.tests c.args.set.now c.in_ok-class.class c.args.remainder v c.in_ok-class.ensures c.element_laws.ensures.words inside left)
