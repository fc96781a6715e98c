use Rattle.std.proofs.Common.{◌+◌, ◌-◌, arith}
use Rattle.near_marks.proofs.Closing.{turned_more}
use Rattle.near_marks.proofs.Grids.{stepped}
use Rattle.near_marks.proofs.Leaving.{kept_more}
use Rattle.near_marks.proofs.close.place_turned.Goals as goal

pub loop-number-preserved : goal.loop-number-preserved
loop-number-preserved c = record {
  placed = turned_more c.loop-number.page c.set.new.self c.args.steps c.args.low (c.args.low + 4095) c.loop-number.number (c.loop-number.number + c.step-step.result) (omega (arith, c.step-step.ensures)) c.loop-number.invariant.same c.set.ensures c.loop-number.invariant.placed;
  kept = kept_more c.args.page.now c.loop-number.page c.set.new.self (c.args.low + 4095 - c.loop-number.number) c.set.ensures c.loop-number.invariant.kept;
  same = stepped c.args.steps.shift c.loop-number.number c.args.steps.low c.step-step.result c.step-step.ensures c.loop-number.invariant.same;
  above = omega (arith, c.loop-number.invariant.above);
}
