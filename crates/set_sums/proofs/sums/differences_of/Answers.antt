use Rattle.std.proofs.Common.{◌<◌, ◌^◌}
use Rattle.set_sums.proofs.Members.{element}
use Rattle.set_sums.proofs.sums.differences_of.Goals as goal

pub returns-in-Some : goal.returns-in-Some
returns-in-Some c v w d h k = (rw c.in-Some.is at c.in_ok-near.ensures) v w (element (λ n. n < 2 ^ 32) c.args.domain.now v c.element_laws.ensures.words d) (c.is_narrow.ensures c.if-is_narrow.true v d) h k
