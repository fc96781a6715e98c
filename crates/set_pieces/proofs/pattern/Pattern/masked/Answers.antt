use Rattle.set_pieces.specs.Internal.Patterns.{matches}
use Rattle.set_pieces.proofs.Masking.{masked_none, masked_within, masked_test}
use Rattle.set_pieces.proofs.pattern.Pattern.masked.Goals as goal

pub returns-then-self-mask : goal.returns-then-self-mask
unfolding matches
returns-then-self-mask c = λ x. masked_none x c.args.mask c.args.self.mask c.args.self.bits c.if-self-mask.true

pub invariant_of-result : goal.invariant_of-result
invariant_of-result c = record { within = masked_within c.args.mask c.args.self.mask c.args.self.bits c.args.self.within c.if-self-mask.false }

pub returns : goal.returns
unfolding matches
returns c = λ x. masked_test x c.args.mask c.args.self.mask c.args.self.bits
