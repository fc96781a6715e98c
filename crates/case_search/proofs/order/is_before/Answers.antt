-- At the first value in which they differ, the lesser rank decides.
use Rattle.case_search.proofs.Orders.{decided_at}
use Rattle.case_search.proofs.order.is_before.Goals as goal

pub returns-then-a-b : goal.returns-then-a-b
returns-then-a-b c = decided_at c.args.pivots.now c.args.x.now c.args.y.now c.loop-i.i c.rank.result c.rank-then-a-b.result c.loop-i-test.true c.loop-i.invariant c.rank.ensures.rank c.rank-then-a-b.ensures.rank c.rank.ensures.pivot c.rank.ensures.value c.rank-then-a-b.ensures.value c.if-a-b.true
