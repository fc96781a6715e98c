use Rattle.set_sums.proofs.Quarters.{by_patterns}
use Rattle.set_sums.proofs.remainders.words_leaving.Goals as goal

pub returns : goal.returns
returns c = by_patterns c.set_laws.ensures.pass c.set_laws.ensures.tests c.args.firsts.now c.args.others.now c.in_ok-classes.classes.items c.deref.result.now c.in_ok-set.set c.args.times c.args.count c.in_ok-classes.ensures c.deref.ensures.value c.in_ok-set.ensures
