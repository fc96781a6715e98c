use Rattle.std.proofs.Common.{length, ap}
use Rattle.set_sums.proofs.Members.{some_common}
use Rattle.set_sums.proofs.ranges.meet.Goals as goal

pub returns-then-is_empty : goal.returns-then-is_empty
returns-then-is_empty c = λ v h k. absurd (some_common c.args.first.now c.args.second.now c.in_ok-common.common c.in_ok-common.ensures v h k (ap length (c.is_empty.ensures.0 c.if-is_empty.true)))
