use Rattle.std.proofs.Common.{subst}
use Rattle.fd_solve.specs.Internal.Marks.{whole_of}
use Rattle.fd_solve.specs.Internal.Equivalent.{StandFor}
use Rattle.fd_solve.proofs.sought.put_tried.Goals as goal

pub put_tried-requires-clause-cases : goal.put_tried-requires-clause-cases
put_tried-requires-clause-cases c = subst (StandFor (whole_of c.args.marked.now).cases) c.in-Some.is c.requires.narrow
