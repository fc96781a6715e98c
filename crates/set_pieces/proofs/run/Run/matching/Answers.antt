use Rattle.std.proofs.Common.{◌^◌, ◌<◌, ◌-◌, ◌∙◌, arith}
use Rattle.std.proofs.lemmas.Bool.{eq-eqb}
use Rattle.set_pieces.specs.Internal.Patterns.{matches}
use Rattle.set_pieces.specs.Internal.Runs.{in_run}
use Rattle.set_pieces.proofs.Pieces.{none_outside}
use Rattle.set_pieces.proofs.Powers.{power_within}
use Rattle.set_pieces.proofs.Ends.{ends_test, low_within, ordered, below_word}
use Rattle.set_pieces.proofs.run.Run.matching.Goals as goal

pub overflow_cast-below : goal.overflow_cast-below
overflow_cast-below c = omega (arith, power_within c.next_power_of_two.ensures.power.0 c.next_power_of_two.result c.next_power_of_two.ensures.power.1 (omega (arith, c.next_power_of_two.ensures.upper_bound, c.from.ensures)))

pub returns-then-bits-mask-clause-held : goal.returns-then-bits-mask-clause-held
returns-then-bits-mask-clause-held c = λ x _. none_outside x c.args.mask c.args.bits c.if-bits-mask.true

pub invariant_of-result : goal.invariant_of-result
invariant_of-result c =
    let power = c.next_power_of_two.ensures.power in
    record { within = rw power.1 (low_within c.args.mask c.args.bits (2 ^ 32 - 1 - c.args.mask) power.0 (omega arith) c.if-bits-mask.false (omega arith) (omega (arith, power.1, c.next_power_of_two.ensures.lower_bound, c.from.ensures))) }

pub invariant_of-result-2 : goal.invariant_of-result-2
invariant_of-result-2 c =
    let power = c.next_power_of_two.ensures.power in
    let span : 2 ^ 32 - 1 - c.args.mask < 2 ^ power.0 = omega (arith, power.1, c.next_power_of_two.ensures.lower_bound, c.from.ensures) in
    record {
      ordered = ordered c.args.mask c.args.bits (2 ^ 32 - 1 - c.args.mask) power.0 (omega arith) c.if-bits-mask.false (omega arith) span (omega arith);
      fits = below_word c.args.mask c.args.bits (2 ^ 32 - 1 - c.args.mask) power.0 (omega arith) c.if-bits-mask.false (omega arith) span (omega arith);
    }

pub returns-clause-held : goal.returns-clause-held
unfolding in_run matches
returns-clause-held c = λ x lt.
    let power = c.next_power_of_two.ensures.power in
    let span : 2 ^ 32 - 1 - c.args.mask < 2 ^ power.0 = omega (arith, power.1, c.next_power_of_two.ensures.lower_bound, c.from.ensures) in
    rw power.1 (ends_test c.args.mask c.args.bits (2 ^ 32 - 1 - c.args.mask) power.0 (omega arith) c.if-bits-mask.false (omega arith) span x lt (omega arith))

pub returns-clause-some : goal.returns-clause-some
unfolding in_run matches
returns-clause-some c =
    let power = c.next_power_of_two.ensures.power in
    let span : 2 ^ 32 - 1 - c.args.mask < 2 ^ power.0 = omega (arith, power.1, c.next_power_of_two.ensures.lower_bound, c.from.ensures) in (
      c.args.bits,
      rw power.1 (ends_test c.args.mask c.args.bits (2 ^ 32 - 1 - c.args.mask) power.0 (omega arith) c.if-bits-mask.false (omega arith) span c.args.bits (omega arith) (omega arith))
          ∙ eq-eqb _ _ c.if-bits-mask.false,
    )
