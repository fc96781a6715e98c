use Rattle.std.proofs.Common.{◌+◌, arith}
use Rattle.near_marks.proofs.Grids.{stepped}
use Rattle.near_marks.proofs.Marking.{each_kept, each_more}
use Rattle.near_marks.proofs.marks.Marks.mark_singly.Goals as goal

pub loop-number-preserved : goal.loop-number-preserved
loop-number-preserved c = record {
  marked = each_more c.loop-number.self c.mark.new.self c.args.first c.loop-number.number (c.loop-number.number + c.step-step.result) c.args.shift c.mark.ensures (omega (arith, c.step-step.ensures)) c.loop-number.invariant.same c.loop-number.invariant.marked;
  kept = each_kept c.args.self.now c.loop-number.self c.mark.new.self c.loop-number.number c.mark.ensures c.loop-number.invariant.kept;
  same = stepped c.args.shift c.loop-number.number c.args.first c.step-step.result c.step-step.ensures c.loop-number.invariant.same;
}
