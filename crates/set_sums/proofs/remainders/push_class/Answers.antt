use Rattle.std.proofs.Common.{refl}
use Rattle.set_sums.proofs.Quarters.{pushed_class}
use Rattle.set_sums.proofs.remainders.push_class.Goals as goal

pub returns-clause-class : goal.returns-clause-class
returns-clause-class c n leaves = pushed_class c.args.classes.now.items c.push.new.self.items c.args.count c.args.times c.args.first c.args.other c.low_mask-mask.result _ n c.requires c.low_mask-mask.ensures refl c.in_ok-push.ensures.items leaves
