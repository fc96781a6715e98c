use Rattle.std.proofs.Common.{◌+◌, ◌%◌, arith}
use Rattle.near_marks.proofs.Grids.{stepped}
use Rattle.near_marks.proofs.Leaving.{kept_more, rests_more}
use Rattle.near_marks.proofs.rests.note_rests.Goals as goal

pub loop-number-preserved : goal.loop-number-preserved
loop-number-preserved c = record {
  noted = rests_more c.loop-number.rests c.set.new.self c.args.steps c.loop-number.number (c.loop-number.number + c.step-step.result) (omega (arith, c.step-step.ensures)) c.loop-number.invariant.same c.set.ensures c.loop-number.invariant.noted;
  kept = kept_more c.args.rests.now c.loop-number.rests c.set.new.self (c.loop-number.number % 64) c.set.ensures c.loop-number.invariant.kept;
  same = stepped c.args.steps.shift c.loop-number.number c.args.steps.low c.step-step.result c.step-step.ensures c.loop-number.invariant.same;
}
