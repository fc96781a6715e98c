use Rattle.std.proofs.Common.{refl, arith}
use Rattle.set_pieces.proofs.Lasts.{mirrored_within, mirror_matches}
use Rattle.set_pieces.proofs.pattern.Pattern.mirrored.Goals as goal

pub invariant_of-result : goal.invariant_of-result
invariant_of-result c = record { within = mirrored_within c.args.self.mask c.args.self.bits }

pub returns : goal.returns
returns c = λ x lt. mirror_matches c.args.self _ x (omega arith) (omega arith) refl refl lt
