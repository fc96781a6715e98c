use Rattle.std.proofs.Common.{arith}
use Rattle.std.proofs.lemmas.Bool.Decides.{nat_tests}
use Rattle.set_pieces.specs.Internal.Runs.{in_run}
use Rattle.set_pieces.proofs.run.Run.has.Goals as goal

pub returns-then-x-self : goal.returns-then-x-self
unfolding in_run
returns-then-x-self c = grind (arith, nat_tests)

pub returns-else-x-self : goal.returns-else-x-self
unfolding in_run
returns-else-x-self c = grind (arith, nat_tests)
