use Rattle.std.proofs.Common.{arith}
use Rattle.part_machine.specs.Undo.{whole_of}
use Rattle.part_machine.specs.Whole.{wholes}
use Rattle.part_state.specs.Internal.Parts.{history}
use Rattle.part_state.proofs.Wholes.{start, length_earlier, undone_kept, undone_fore}
use Rattle.part_state.proofs.Kept.{tests_popped}
use Rattle.part_state.proofs.logged.Logged.rollback.Goals as goal

pub loop-entry-init : goal.loop-entry-init
loop-entry-init c = record {
  fore = start c.args.self.now.log (whole_of c.args.self.now.machine);
  kept = c.requires.kept;
  left = omega (arith, c.requires.mark, length_earlier c.args.self.now.log (whole_of c.args.self.now.machine));
}

pub loop-entry-preserved : goal.loop-entry-preserved
loop-entry-preserved c = record {
  fore = undone_fore c.loop-entry.self.log c.pop_above.new.self c.in-Some.entry (whole_of c.loop-entry.self.machine) (whole_of c.undo.new.self) (wholes (history c.args.self.now)) c.in-Some.ensures.some c.undo.ensures c.loop-entry.invariant.fore;
  kept = record { within = undone_kept c.loop-entry.self.log c.pop_above.new.self c.in-Some.entry (whole_of c.loop-entry.self.machine) (whole_of c.undo.new.self) c.in-Some.ensures.some c.undo.ensures c.loop-entry.invariant.kept.within; tests = tests_popped c.loop-entry.self.log c.pop_above.new.self c.in-Some.entry (whole_of c.loop-entry.self.machine) (whole_of c.undo.new.self) c.in-Some.ensures.some c.undo.ensures c.loop-entry.invariant.kept.tests };
  left = c.in-Some.ensures.above;
}
