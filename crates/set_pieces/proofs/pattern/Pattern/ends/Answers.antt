use Rattle.std.proofs.Common.{◌≡◌, ◌%◌, ◌^◌, refl, arith}
use Rattle.std.proofs.lemmas.Bool.{eq-eqb}
use Rattle.std.proofs.lemmas.Nat.{and_le_r}
use Rattle.set_pieces.specs.Internal.Patterns.{matches, matches_below}
use Rattle.set_pieces.proofs.pattern.Pattern.ends.Goals as goal

pub returns-clause-all : goal.returns-clause-all
unfolding matches matches_below
returns-clause-all c =
    let p = c.args.self in
    let mask : p.mask % 2 ^ 32 ≡ p.mask = omega arith in
    let bits : p.bits % 2 ^ 32 ≡ p.bits = omega (arith, p.within, and_le_r p.bits p.mask) in
    λ x. rw (mask, bits) refl

pub returns-clause-none : goal.returns-clause-none
unfolding matches_below
returns-clause-none c = λ x. eq-eqb _ _ (omega (arith, and_le_r x (c.args.self.mask % 2 ^ 0)))
