use Rattle.std.proofs.Common.{refl}
use Rattle.set_pieces.specs.Internal.Runs.{in_run}
use Rattle.set_pieces.proofs.run.Run.with_pattern.Goals as goal

pub returns-clause-held : goal.returns-clause-held
unfolding in_run
returns-clause-held c = λ x. refl
