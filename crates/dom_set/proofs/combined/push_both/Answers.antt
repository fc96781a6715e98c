use Rattle.std.proofs.Common.{Bool, ◌&&◌, ap, arith}
use Rattle.set_pieces.specs.Counting.{one}
use Rattle.set_pieces.specs.Internal.Patterns.{is_matched}
use Rattle.set_pieces.proofs.Without.{both_parts, no_both}
use Rattle.dom_set.proofs.combined.push_both.Goals as goal

pub returns-in_ok-push_outside_hole-in-Some : goal.returns-in_ok-push_outside_hole-in-Some
returns-in_ok-push_outside_hole-in-Some c = λ x. omega (
  arith,
  c.in_ok-push_outside_hole-in-Some.ensures x,
  ap one (c.in-Some.ensures x),
  ap (λ (b : Bool). one (b && is_matched c.args.q.hole x)) (c.in-Some.ensures x),
  both_parts c.args.p c.args.q x,
)

pub returns-in-None : goal.returns-in-None
returns-in-None c = λ x. omega (arith, no_both c.args.p c.args.q x (c.in-None.ensures x))
