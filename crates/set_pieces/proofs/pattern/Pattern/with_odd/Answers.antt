use Rattle.std.proofs.Common.{ℕ, ap, eqb}
use Rattle.set_pieces.specs.Internal.Patterns.{matches}
use Rattle.set_pieces.proofs.Halving.{even_and, even_within, odd_none}
use Rattle.set_pieces.proofs.pattern.Pattern.with_odd.Goals as goal

pub returns-then-self-eq1 : goal.returns-then-self-eq1
returns-then-self-eq1 c = λ x. odd_none c.args.self x c.if-self-eq1.true

pub invariant_of-result : goal.invariant_of-result
invariant_of-result c = record { within = even_within c.args.self.bits c.args.self.mask c.args.self.within c.if-self-eq1.false }

pub returns : goal.returns
unfolding matches
returns c = λ x. ap (λ (n : ℕ). eqb n c.args.self.bits) (even_and x c.args.self.mask)
