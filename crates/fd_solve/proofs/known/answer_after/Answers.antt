use Rattle.std.proofs.Common.{subst}
use Rattle.fd_solve.specs.Internal.Known.{IsKnown}
use Rattle.fd_solve.specs.Internal.Marks.{whole_of}
use Rattle.fd_solve.proofs.known.answer_after.Goals as goal

pub returns-in_ok-done-in-Fits : goal.returns-in_ok-done-in-Fits
returns-in_ok-done-in-Fits c = c.in_ok-done-in-Fits.ensures.solved c.args.nodes (subst (IsKnown (whole_of c.args.marked.now) c.args.nodes) c.in-Fits.is c.requires.known).0
