use Rattle.set_sums.proofs.Tracked.{near_on}
use Rattle.set_sums.proofs.near.near_on.Goals as goal

pub returns : goal.returns
returns c = near_on c.in_ok-words.words c.mark_pairs.new.marks c.page.result c.args.firsts.now c.args.others.now c.in_ok-firsts.firsts.items c.in_ok-others.others.items c.in_ok-ranges.ranges.items c.in_ok-firsts.ensures c.in_ok-others.ensures
    (rw (c.deref.ensures.value, c.deref-2.ensures.value) at c.mark_pairs.ensures.marked) c.page.ensures c.in_ok-ranges.ensures (rw c.deref-3.ensures.value at c.in_ok-words.ensures)
