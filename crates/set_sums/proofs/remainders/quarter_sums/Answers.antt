use Rattle.std.proofs.Common.{arith}
use Rattle.set_sums.proofs.Quarters.{by_classes, of_all}
use Rattle.set_sums.proofs.remainders.quarter_sums.Goals as goal

pub returns : goal.returns
returns c = by_classes c.args.first.now c.args.second.now c.in_ok-firsts.firsts.items c.in_ok-others.others.items c.in_ok-set.set c.args.times 2 (omega arith) c.in_ok-firsts.ensures c.in_ok-others.ensures
    (rw (c.deref.ensures.value, c.deref-2.ensures.value) at c.in_ok-set.ensures)

pub returns-then-size-eq-WORDS : goal.returns-then-size-eq-WORDS
returns-then-size-eq-WORDS c = of_all c.set_laws.ensures.pass c.set_laws.ensures.tests c.args.first.now c.args.second.now c.in_ok-words.words c.args.times c.in_ok-words.ensures
