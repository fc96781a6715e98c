use Rattle.std.proofs.Common.{arith}
use Rattle.set_sums.proofs.Tracked.{against_at}
use Rattle.set_sums.proofs.near.against.Goals as goal

pub returns : goal.returns
returns c x h = against_at c.args.track _ _ x (omega (arith, c.from.ensures, c.from.type_inv)) (omega (arith, c.from.ensures)) (omega (arith, c.from-2.ensures)) h
