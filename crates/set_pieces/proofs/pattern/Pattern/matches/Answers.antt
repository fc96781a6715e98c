use Rattle.std.proofs.Common.{refl}
use Rattle.set_pieces.specs.Internal.Patterns.{matches}
use Rattle.set_pieces.proofs.pattern.Pattern.matches.Goals as goal

pub returns : goal.returns
unfolding matches
returns c = refl
