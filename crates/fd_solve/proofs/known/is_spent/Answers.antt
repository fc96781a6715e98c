use Rattle.std.proofs.Common.{ap, ◌∙◌}
use Rattle.std.specs.Prelude.{nat_lt}
use Rattle.fd_solve.specs.Internal.Marks.{whole_of}
use Rattle.fd_solve.proofs.FirstCases.{same_space}
use Rattle.fd_solve.proofs.known.is_spent.Goals as goal

pub returns-then-not-within : goal.returns-then-not-within
returns-then-not-within c = ap (nat_lt c.args.nodes) (c.space.ensures ∙ same_space (whole_of c.args.marked.now) c.args.marked.now.firsts.now c.requires.sound.firsts)
