use Rattle.std.proofs.Common.{◌≡◌, ℕ, ◌+◌, ◌-◌, ◌%◌, ◌^◌, ◌&&◌, Bool, not, ap, arith}
use Rattle.set_pieces.specs.Counting.{one}
use Rattle.set_pieces.specs.Internal.Patterns.{matches_below}
use Rattle.set_pieces.specs.Internal.Runs.{in_run}
use Rattle.set_pieces.proofs.Pieces.{matches_fewer}
use Rattle.set_pieces.proofs.Unmatched.{none_yet, one_missed}
use Rattle.set_pieces.proofs.moved.push_moved_holed.Goals as goal

pub loop-bit-init : goal.loop-bit-init
loop-bit-init c = λ y lt.
    let z : ℕ = (y + (2 ^ 32 - c.args.distance)) % 2 ^ 32 in
    omega (arith, ap one (none_yet (in_run c.args.run z) (matches_below c.args.hole 0 z) (c.ends.ensures.none z)))

pub loop-bit-preserved : goal.loop-bit-preserved
loop-bit-preserved c = λ y lt.
    let z : ℕ = (y + (2 ^ 32 - c.args.distance)) % 2 ^ 32 in
    omega (
      arith,
      c.loop-bit.invariant y lt,
      c.in_ok-push_moved.ensures y lt,
      ap one (c.missed.ensures z),
      one_missed (in_run c.args.run z) (matches_below c.args.hole c.loop-bit.bit z) (matches_below c.args.hole (c.loop-bit.bit + 1) z) (matches_fewer c.args.hole c.loop-bit.bit z),
    )

pub returns : goal.returns
returns c = λ y lt.
    let z : ℕ = (y + (2 ^ 32 - c.args.distance)) % 2 ^ 32 in
    let last : c.loop-bit.bit ≡ 32 = omega arith in
    omega (
      arith,
      c.loop-bit.invariant y lt,
      ap (λ (n : ℕ). one (in_run c.args.run z && not (matches_below c.args.hole n z))) last,
      ap (λ (b : Bool). one (in_run c.args.run z && not b)) (c.ends.ensures.all z),
    )
