use Rattle.std.proofs.Common.{◌≡◌, ◌+◌, ◌-◌, ◌%◌, ◌^◌, ◌&&◌, false, ltb, ap, ◌∙◌, arith}
use Rattle.set_pieces.specs.Counting.{one}
use Rattle.set_pieces.specs.Internal.Patterns.{matches}
use Rattle.set_pieces.specs.Internal.Runs.{in_run}
use Rattle.set_pieces.specs.Internal.Pieces.{times}
use Rattle.set_pieces.proofs.Pieces.{all_below, none_below}
use Rattle.set_pieces.proofs.moved.push_blocks.Goals as goal

pub loop-from-init : goal.loop-from-init
unfolding in_run
loop-from-init c = λ y small.
    let x = (y + (2 ^ 32 - c.args.distance)) % 2 ^ 32 in
    let none : (in_run c.args.p x && ltb x c.from-from.result) ≡ false = none_below (matches c.args.p.pattern) c.args.p.low c.args.p.high c.from-from.result x (omega (arith, c.from-from.ensures)) in
    omega (arith, ap one none)

pub returns : goal.returns
unfolding in_run
returns c = λ y small.
    let x = (y + (2 ^ 32 - c.args.distance)) % 2 ^ 32 in
    c.loop-from.invariant y small
    ∙ ap (λ b. times c.args.out.now.items y + one b) (all_below (matches c.args.p.pattern) c.args.p.low c.args.p.high c.loop-from.from x (omega (arith, c.from.ensures, c.loop-from-test.false)))
