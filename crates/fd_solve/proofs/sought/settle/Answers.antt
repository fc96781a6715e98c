use Rattle.std.proofs.Common.{subst}
use Rattle.fd_solve.specs.Internal.Marks.{begun_of}
use Rattle.fd_solve.specs.Internal.Equivalent.{StandFor}
use Rattle.fd_solve.proofs.Equivalence.{all_whole}
use Rattle.fd_solve.proofs.sought.settle.Goals as goal

pub settle-requires-clause-cases : goal.settle-requires-clause-cases
settle-requires-clause-cases c = all_whole (begun_of c.args.marked.now).cases c.in-Some.cases (subst (StandFor (begun_of c.args.marked.now).cases) c.in-Some.is c.requires.narrow)
