use Rattle.set_sums.proofs.Quarters.{class_has}
use Rattle.set_sums.proofs.remainders.class_differences.Goals as goal

pub returns : goal.returns
returns c = class_has c.args.first.now c.args.second.now c.in_ok-set.set c.in_ok-set.ensures
