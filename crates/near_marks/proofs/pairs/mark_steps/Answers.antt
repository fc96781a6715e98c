use Rattle.near_marks.proofs.Marking.{steps_each}
use Rattle.near_marks.proofs.pairs.mark_steps.Goals as goal

pub returns-then-first-end-clause-marked : goal.returns-then-first-end-clause-marked
returns-then-first-end-clause-marked c = steps_each c.mark_each.new.self c.args.low c.args.high c.args.shift c.args.base c.min-end.result c.next_on-first.result c.min-end.ensures c.next_on-first.ensures c.mark_each.ensures.marked
