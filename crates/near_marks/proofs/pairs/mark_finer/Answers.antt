use Rattle.near_marks.proofs.Marking.{by_finer}
use Rattle.near_marks.proofs.pairs.mark_finer.Goals as goal

pub returns-then-fine-step-clause-marked : goal.returns-then-fine-step-clause-marked
returns-then-fine-step-clause-marked c = by_finer c.mark_steps.new.marks c.args.fine c.args.coarse c.args.base c.requires.finer c.mark_steps.ensures.marked
