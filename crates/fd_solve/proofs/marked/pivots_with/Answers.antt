use Rattle.std.proofs.Common.{sym, ◌∙◌}
use Rattle.fd_prob.specs.declared.slot.Slot.TheVariants as slots
use Rattle.fd_solve.specs.Internal.Marks.{whole_of}
use Rattle.fd_solve.proofs.FirstCases.{moved_pivots, same_pivot}
use Rattle.fd_solve.proofs.marked.pivots_with.Goals as goal

pub pivots_of-requires-clause-pivot : goal.pivots_of-requires-clause-pivot
pivots_of-requires-clause-pivot c = c.requires.pivot ∙ sym (same_pivot (whole_of c.args.marked.now) c.args.marked.now.firsts.now c.requires.sound.firsts c.args.op slots.Op)

pub returns : goal.returns
returns c = moved_pivots (whole_of c.args.marked.now) c.args.marked.now.firsts.now c.requires.sound.firsts c.args.op c.pivots_of.result c.pivots_of.ensures
