use Rattle.std.proofs.Common.{arith}
use Rattle.std.proofs.lemmas.Bool.{leb-true}
use Rattle.set_sums.proofs.Tracked.{narrow_by_first}
use Rattle.set_sums.proofs.near.is_narrow.Goals as goal

pub returns-then-from-lt-REACH : goal.returns-then-from-lt-REACH
returns-then-from-lt-REACH c test = narrow_by_first c.args.domain.now c.in-Some.x c.element_laws.ensures.ascending c.element_laws.ensures.words c.in-Some.ensures.first (λ le. absurd (omega (arith, le, c.if-from-lt-REACH.true, c.from.ensures)))

pub returns-else-from-lt-REACH : goal.returns-else-from-lt-REACH
returns-else-from-lt-REACH c test = narrow_by_first c.args.domain.now c.in-Some.x c.element_laws.ensures.ascending c.element_laws.ensures.words c.in-Some.ensures.first (λ le. omega (arith, leb-true 4294965248 c.from-else-from-lt-REACH.result test, c.from-else-from-lt-REACH.ensures))
