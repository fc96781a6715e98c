use Rattle.std.proofs.Common.{arith}
use Rattle.foot_map.specs.Touches.{has}
use Rattle.part_clash.proofs.Steps.{no_access, least_next, answer_none, answer_some}
use Rattle.part_clash.proofs.least.least_clash.Goals as goal

pub loop-x-preserved : goal.loop-x-preserved
loop-x-preserved c =
    least_next (has c.args.feet.now) c.args.hart c.args.accesses.now c.loop-x.x-index no_access c.loop-x.best c.clash_of.result c.lesser-best.result
    c.loop-x-test.true c.loop-x.invariant c.clash_of.ensures c.lesser-best.ensures.one c.lesser-best.ensures.least c.lesser-best.ensures.none

pub returns-clause-some : goal.returns-clause-some
returns-clause-some c = answer_some (has c.args.feet.now) c.args.hart c.args.accesses.now c.loop-x.x-index c.loop-x.best (omega (arith, c.loop-x-test.false)) c.loop-x.invariant

pub returns-clause-none : goal.returns-clause-none
returns-clause-none c = answer_none (has c.args.feet.now) c.args.hart c.args.accesses.now c.loop-x.x-index c.loop-x.best (omega (arith, c.loop-x-test.false)) c.loop-x.invariant
