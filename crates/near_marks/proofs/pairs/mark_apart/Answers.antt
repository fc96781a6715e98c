use Rattle.std.proofs.Common.{◌+◌, arith}
use Rattle.near_marks.proofs.Grids.{stepped}
use Rattle.near_marks.proofs.Marking.{below_more}
use Rattle.near_marks.proofs.pairs.mark_apart.Goals as goal

pub loop-number-preserved : goal.loop-number-preserved
loop-number-preserved c = record {
  marked = below_more c.loop-number.marks c.mark_moved.new.marks c.args.whole c.args.other c.args.base c.loop-number.number (c.loop-number.number + c.step-step.result) (omega (arith, c.step-step.ensures)) c.loop-number.invariant.same c.mark_moved.ensures.kept c.mark_moved.ensures.marked c.loop-number.invariant.marked;
  kept = λ x small h. c.mark_moved.ensures.kept x small (c.loop-number.invariant.kept x small h);
  same = stepped c.args.other.shift c.loop-number.number c.args.other.low c.step-step.result c.step-step.ensures c.loop-number.invariant.same;
}
