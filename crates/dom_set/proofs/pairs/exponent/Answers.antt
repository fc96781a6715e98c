use Rattle.std.proofs.Common.{ℕ, ◌^◌, sym, ap, ◌∙◌, arith}
use Rattle.dom_set.proofs.Powers.{exponent_below, trailing_zeros-power}
use Rattle.dom_set.proofs.pairs.exponent.Goals as goal

pub returns-clause-power : goal.returns-clause-power
returns-clause-power c =
    let below = exponent_below c.args.n c.requires.0 c.requires.1 c.ranges.n.fits in
    c.requires.1 ∙ ap (λ (n : ℕ). 2 ^ n) (sym (trailing_zeros-power c.args.n c.requires.0 below c.requires.1 c.ranges.n.fits))

pub returns-clause-bound : goal.returns-clause-bound
returns-clause-bound c =
    let below = exponent_below c.args.n c.requires.0 c.requires.1 c.ranges.n.fits in
    omega (arith, trailing_zeros-power c.args.n c.requires.0 below c.requires.1 c.ranges.n.fits, below)
