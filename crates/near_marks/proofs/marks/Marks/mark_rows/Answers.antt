use Rattle.std.proofs.Common.{◌+◌, arith}
use Rattle.near_marks.proofs.Grids.{stepped}
use Rattle.near_marks.proofs.Turning.{row_more}
use Rattle.near_marks.proofs.marks.Marks.mark_rows.Goals as goal

pub loop-number-preserved : goal.loop-number-preserved
loop-number-preserved c = record {
  marked = row_more c.loop-number.self c.mark_row.new.self c.args.first c.args.last c.loop-number.number (c.loop-number.number + c.step-step.result) c.args.shift c.requires.within c.requires.end (omega (arith, c.step-step.ensures)) c.loop-number.invariant.from c.loop-number.invariant.same c.mark_row.ensures.kept c.mark_row.ensures.marked c.loop-number.invariant.marked;
  kept = λ x small h. c.mark_row.ensures.kept x small (c.loop-number.invariant.kept x small h);
  same = stepped c.args.shift c.loop-number.number c.args.first c.step-step.result c.step-step.ensures c.loop-number.invariant.same;
  from = omega arith;
}
