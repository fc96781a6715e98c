use Rattle.std.proofs.Common.{ℕ, List, arith, refl, sym, subst}
use Rattle.std.proofs.lemmas.Nat.{pow_below}
use Rattle.set_sums.specs.Internal.Remainders.{HasRemainders}
use Rattle.set_sums.proofs.Quarters.{known_bits, known_but_one}
use Rattle.set_sums.proofs.remainders.known_remainders.Goals as goal

pub returns-in-Some : goal.returns-in-Some
returns-in-Some c = subst (λ (numbers : List ℕ). HasRemainders c.args.set.now c.args.count numbers) (sym c.in_ok-numbers.ensures.items) (known_bits c.args.set.now c.args.count c.low_mask-mask.result c.in-Some.bits c.low_mask-mask.ensures c.in-Some.ensures)

pub overflow_sub-mask : goal.overflow_sub-mask
overflow_sub-mask c = omega (arith, c.low_mask-mask.ensures, pow_below 0 c.args.count c.requires.0)

pub returns-in-Some-bits_under : goal.returns-in-Some-bits_under
returns-in-Some-bits_under c = subst (λ (numbers : List ℕ). HasRemainders c.args.set.now c.args.count numbers) (sym c.in_ok-numbers-2.ensures.items) (known_but_one c.args.set.now c.args.count c.low_mask-mask.result c.in-Some-bits_under.bits _ c.requires.0 c.requires.1 c.low_mask-mask.ensures c.in-Some-bits_under.ensures refl)
