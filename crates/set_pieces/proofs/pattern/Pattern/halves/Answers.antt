use Rattle.std.proofs.Common.{refl, sym, ◌∙◌, arith}
use Rattle.set_pieces.specs.Internal.Patterns.{matches}
use Rattle.set_pieces.proofs.Masks.{lower_within, upper_within, halves_test, more_bits, lowest, no_step, ones_below, all_ones}
use Rattle.set_pieces.proofs.pattern.Pattern.halves.Goals as goal

pub returns-then-bit-eq32-clause-step : goal.returns-then-bit-eq32-clause-step
returns-then-bit-eq32-clause-step c = (λ none. (32, all_ones c.args.self.mask (omega arith) (sym c.trailing_ones-bit.ensures ∙ c.if-bit-eq32.true)), λ step. refl)

pub returns-then-self-free-clause-step : goal.returns-then-self-free-clause-step
returns-then-self-free-clause-step c =
    let low = lowest c.args.self.mask c.trailing_ones-bit.result (omega arith) c.trailing_ones-bit.ensures c.if-bit-eq32.false in
    (λ none. (c.trailing_ones-bit.result, ones_below c.args.self.mask c.trailing_ones-bit.result low (omega (arith, low.shifted, c.if-self-free.true))), λ step. refl)

pub returns-clause-step : goal.returns-clause-step
returns-clause-step c =
    let low = lowest c.args.self.mask c.trailing_ones-bit.result (omega arith) c.trailing_ones-bit.ensures c.if-bit-eq32.false in
    (λ none. absurd cc, λ step. absurd (no_step c.args.self.mask c.trailing_ones-bit.result step.0 low (omega (arith, low.shifted, c.if-self-free.false)) step.1))

pub invariant_of-result : goal.invariant_of-result
invariant_of-result c =
    let low = lowest c.args.self.mask c.trailing_ones-bit.result (omega arith) c.trailing_ones-bit.ensures c.if-bit-eq32.false in
    record { within = rw low.shifted (lower_within c.args.self.mask c.args.self.bits c.trailing_ones-bit.result c.args.self.within) }

pub invariant_of-result-2 : goal.invariant_of-result-2
invariant_of-result-2 c =
    let low = lowest c.args.self.mask c.trailing_ones-bit.result (omega arith) c.trailing_ones-bit.ensures c.if-bit-eq32.false in
    record { within = rw low.shifted (upper_within c.args.self.mask c.args.self.bits c.trailing_ones-bit.result c.args.self.within) }

pub returns-clause-apart : goal.returns-clause-apart
unfolding matches
returns-clause-apart c =
    let low = lowest c.args.self.mask c.trailing_ones-bit.result (omega arith) c.trailing_ones-bit.ensures c.if-bit-eq32.false in
    λ x. rw low.shifted (halves_test c.args.self.mask c.args.self.bits c.trailing_ones-bit.result x c.args.self.within low.clear)

pub returns-clause-finer : goal.returns-clause-finer
returns-clause-finer c =
    let low = lowest c.args.self.mask c.trailing_ones-bit.result (omega arith) c.trailing_ones-bit.ensures c.if-bit-eq32.false in
    let more = more_bits c.args.self.mask c.trailing_ones-bit.result low.clear in
    rw low.shifted (more, more)
