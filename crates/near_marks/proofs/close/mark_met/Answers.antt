use Rattle.std.proofs.Common.{arith}
use Rattle.near_marks.proofs.close.mark_met.Goals as goal

pub may_meet-requires-clause-below : goal.may_meet-requires-clause-below
may_meet-requires-clause-below c = omega (arith, c.in-Some.ensures.from, c.loop-number.invariant.start (omega (arith, c.in-Some.ensures.from, c.in-Some.ensures.within)))
