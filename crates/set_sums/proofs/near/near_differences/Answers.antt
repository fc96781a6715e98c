use Rattle.set_sums.proofs.Tracked.{all_by_tracks}
use Rattle.set_sums.proofs.near.near_differences.Goals as goal

pub returns : goal.returns
returns c = all_by_tracks c.in_ok-near.near c.args.first.now c.args.second.now c.in_ok-firsts.firsts.items c.in_ok-others.others.items c.element_laws.ensures.words c.in_ok-firsts.ensures c.in_ok-others.ensures (rw (c.deref.ensures.value, c.deref-2.ensures.value) at c.in_ok-near.ensures)
