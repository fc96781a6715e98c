use Rattle.std.proofs.Common.{◌+◌, ◌&&◌, ◌||◌, not, arith}
use Rattle.set_pieces.specs.Internal.Patterns.{matches, matches_below}
use Rattle.set_pieces.specs.Internal.Runs.{in_run, is_in_run}
use Rattle.set_pieces.proofs.Lasts.{last_same}
use Rattle.set_pieces.proofs.Unmatched.{none_yet, one_bit_more, all_bits}
use Rattle.set_pieces.proofs.holes.last_unmatched.Goals as goal

pub loop-bit-init : goal.loop-bit-init
loop-bit-init c = λ x. none_yet (in_run c.args.run x) (matches_below c.args.hole 0 x) (c.ends.ensures.none x)

pub loop-bit-preserved : goal.loop-bit-preserved
loop-bit-preserved c =
    let bit = c.loop-bit.bit in
    last_same (λ x. (in_run c.args.run x && not (matches_below c.args.hole bit x)) || is_in_run c.missed.result x)
    (λ x. in_run c.args.run x && not (matches_below c.args.hole (bit + 1) x)) c.further_of-furthest.result
    (λ x. one_bit_more c.args.run c.args.hole bit x (is_in_run c.missed.result x) (c.missed.ensures x))
    (c.further_of-furthest.ensures (λ x. in_run c.args.run x && not (matches_below c.args.hole bit x)) c.loop-bit.invariant)

pub returns : goal.returns
returns c =
    last_same (λ x. in_run c.args.run x && not (matches_below c.args.hole c.loop-bit.bit x)) (λ x. in_run c.args.run x && not (matches c.args.hole x)) c.loop-bit.furthest
    (λ x. all_bits c.args.run c.args.hole c.loop-bit.bit x (omega arith) (c.ends.ensures.all x))
    c.loop-bit.invariant
