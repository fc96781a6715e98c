use Rattle.fd_solve.specs.Internal.Marks.{whole_of}
use Rattle.fd_solve.proofs.Marking.{whole_marked}
use Rattle.fd_solve.proofs.AllOperations.{least_above, rest_is_least}
use Rattle.fd_solve.proofs.operations.least.Goals as goal

pub returns-in-Some-clause-least : goal.returns-in-Some-clause-least
returns-in-Some-clause-least c = least_above (whole_of c.args.marked.now) c.fitting_laws.ensures.fitting (whole_marked c.args.marked.now.marks.now c.args.marked.now.biases.now c.args.marked.now.problem.now c.requires.sound.problem) c.args.pivot c.requires.pivot c.in-Some.x (rw c.in-Some.is at c.in_ok-x.ensures.least)

pub returns-clause-least : goal.returns-clause-least
returns-clause-least c = rest_is_least (whole_of c.args.marked.now) c.fitting_laws.ensures.fitting (whole_marked c.args.marked.now.marks.now c.args.marked.now.biases.now c.args.marked.now.problem.now c.requires.sound.problem) c.args.pivot c.requires.pivot (rw c.in_default.is at c.in_ok-x.ensures.least) c.in_ok-lower.lower c.in_ok-lower.ensures.least
