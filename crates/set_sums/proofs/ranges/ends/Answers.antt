use Rattle.std.proofs.Common.{sym}
use Rattle.set_sums.proofs.Spans.{ends_hold}
use Rattle.set_sums.proofs.ranges.ends.Goals as goal

pub returns-clause-some : goal.returns-clause-some
returns-clause-some c = ends_hold c.args.set.now c.in_ok-low.low c.in_ok-high.high c.element_laws.ensures.ascending (sym c.in_ok-low.ensures) (sym c.in_ok-high.ensures.greatest)
