use Rattle.fd_prob.proofs.Joins.{common_is, none_common}
use Rattle.fd_prob.proofs.joined.common.Goals as goal

pub returns-then-is_empty : goal.returns-then-is_empty
returns-then-is_empty c = none_common c.args.a.now c.args.b.now c.in_ok-common.common c.in_ok-common.ensures (c.is_empty.ensures.0 c.if-is_empty.true)

pub returns : goal.returns
returns c = common_is c.args.a.now c.args.b.now c.in_ok-common.common c.in_ok-common.ensures
