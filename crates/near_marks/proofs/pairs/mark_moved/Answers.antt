use Rattle.near_marks.proofs.Marking.{moved}
use Rattle.near_marks.proofs.pairs.mark_moved.Goals as goal

pub returns-clause-marked : goal.returns-clause-marked
returns-clause-marked c = moved c.mark_steps.new.marks c.args.steps c.args.distance c.args.base c.mark_steps.ensures.marked
