use Rattle.set_pieces.specs.Internal.Patterns.{matches}
use Rattle.set_pieces.proofs.Masks.{both_within, both_test, none_test}
use Rattle.set_pieces.proofs.pattern.Pattern.both.Goals as goal

pub returns-then-self-other : goal.returns-then-self-other
unfolding matches
returns-then-self-other c = λ x. none_test c.args.self.mask c.args.self.bits c.args.other.mask c.args.other.bits x c.if-self-other.true

pub invariant_of-result : goal.invariant_of-result
invariant_of-result c = record { within = both_within c.args.self.mask c.args.self.bits c.args.other.mask c.args.other.bits c.args.self.within c.args.other.within }

pub returns : goal.returns
unfolding matches
returns c = λ x. both_test c.args.self.mask c.args.self.bits c.args.other.mask c.args.other.bits x c.args.self.within c.args.other.within c.if-self-other.false
