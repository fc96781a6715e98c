use Rattle.set_sums.proofs.Spans.{differences_by_ranges}
use Rattle.set_sums.proofs.ranges.differences_around.Goals as goal

pub returns : goal.returns
returns c = differences_by_ranges c.args.first.now c.args.second.now c.args.domain.now c.in_ok-differences.differences c.in_ok-firsts.firsts.items c.in_ok-firsts.others.items c.in_ok-windows.windows.items c.in_ok-ranges.ranges.items c.element_laws.ensures.words c.element_laws-2.ensures.words c.in_ok-firsts.ensures.0 c.in_ok-firsts.ensures.1 c.in_ok-windows.ensures
    (rw (c.deref.ensures.value, c.deref-2.ensures.value, c.deref-3.ensures.value) at c.in_ok-ranges.ensures) (rw c.deref-4.ensures.value at c.in_ok-differences.ensures)
