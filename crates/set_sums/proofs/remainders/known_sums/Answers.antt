use Rattle.set_sums.proofs.Quarters.{by_classes}
use Rattle.set_sums.proofs.remainders.known_sums.Goals as goal

pub returns : goal.returns
returns c = by_classes c.args.first.now c.args.second.now c.in-Some.firsts.items c.in-Some-2.others.items c.in_ok-set.set c.args.times c.args.count c.requires.1
    (rw c.in-Some.is at c.in_ok-firsts.ensures) (rw c.in-Some-2.is at c.in_ok-others.ensures) (rw (c.deref.ensures.value, c.deref-2.ensures.value) at c.in_ok-set.ensures)
