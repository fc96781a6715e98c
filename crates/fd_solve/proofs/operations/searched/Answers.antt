use Rattle.std.proofs.Common.{◌∙◌}
use Rattle.fd_prob.specs.declared.slot.Slot.TheVariants as slots
use Rattle.fd_solve.specs.Internal.Marks.{whole_of}
use Rattle.fd_solve.proofs.FirstCases.{same_pivot}
use Rattle.fd_solve.proofs.operations.searched.Goals as goal

pub least-requires-clause-pivot : goal.least-requires-clause-pivot
least-requires-clause-pivot c op = c.in_ok-pivot.ensures op ∙ same_pivot (whole_of c.args.marked.now) c.args.marked.now.firsts.now c.requires.sound.firsts op slots.Op

pub returns-in-Some-clause-solved : goal.returns-in-Some-clause-solved
returns-in-Some-clause-solved c = λ nodes within. (within, rw c.in-Some.is at c.in_ok-x.ensures.least)

pub returns-in-None-clause-solved : goal.returns-in-None-clause-solved
returns-in-None-clause-solved c = λ nodes within. (within, rw c.in-None.is at c.in_ok-x.ensures.least)
