use Rattle.foot_map.specs.Touches.{has}
use Rattle.part_clash.proofs.Steps.{no_access, least_alone, least_more}
use Rattle.part_clash.proofs.least.clash_of.Goals as goal

pub loop-y-init : goal.loop-y-init
loop-y-init c = least_alone c.args.feet.now c.args.hart c.args.x.now c.may-best.result c.requires c.may-best.ensures.none c.may-best.ensures.clash c.may-best.ensures.least

pub loop-y-preserved : goal.loop-y-preserved
loop-y-preserved c =
    least_more (has c.args.feet.now) c.args.hart c.args.accesses.now c.loop-y.y-index no_access c.args.x.now c.loop-y.best c.own_clash.result c.lesser-best.result
    c.loop-y-test.true c.loop-y.invariant c.own_clash.ensures c.lesser-best.ensures.one c.lesser-best.ensures.least c.lesser-best.ensures.none
