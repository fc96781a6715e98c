use Rattle.std.proofs.Common.{refl, arith}
use Rattle.near_marks.proofs.Grids.{next_at, next_past}
use Rattle.near_marks.proofs.grid.next_on.Goals as goal

pub returns-then-past-eq0 : goal.returns-then-past-eq0
returns-then-past-eq0 c = next_at c.args.low c.args.shift c.args.from c.step-step.result _ c.step-step.ensures refl (omega arith) c.if-past-eq0.true

pub returns-else-past-eq0 : goal.returns-else-past-eq0
returns-else-past-eq0 c = next_past c.args.low c.args.shift c.args.from c.step-step.result _ c.step-step.ensures refl (omega arith) (omega (arith, c.if-past-eq0.false))
