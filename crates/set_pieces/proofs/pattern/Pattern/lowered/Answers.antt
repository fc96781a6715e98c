use Rattle.std.proofs.Common.{◌+◌, ◌-◌, ◌%◌, ◌^◌, arith}
use Rattle.set_pieces.specs.Internal.Patterns.{matches}
use Rattle.set_pieces.proofs.Raising.{cut_within, lowered_test}
use Rattle.set_pieces.proofs.pattern.Pattern.lowered.Goals as goal

pub invariant_of-result : goal.invariant_of-result
invariant_of-result c = record { within = cut_within ((c.args.self.bits + (2 ^ 32 - c.args.distance)) % 2 ^ 32) c.args.self.mask }

pub returns : goal.returns
unfolding matches
returns c = λ y. lowered_test c.args.self.mask c.requires.0 c.args.self.bits c.args.distance y c.requires.1 (omega arith) (omega arith) c.args.self.within
