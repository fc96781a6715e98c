use Rattle.std.proofs.Common.{ap, arith}
use Rattle.set_pieces.specs.Counting.{one}
use Rattle.set_pieces.specs.Internal.Patterns.{matches}
use Rattle.set_pieces.proofs.Without.{holed}
use Rattle.set_pieces.proofs.parts.push_holed.Goals as goal

pub returns-in_ok-push_piece-in-Some : goal.returns-in_ok-push_piece-in-Some
returns-in_ok-push_piece-in-Some c = λ x. omega (
  arith,
  c.in_ok-push_piece-in-Some.ensures x,
  ap one (c.of.ensures x),
  holed c.args.p x (matches c.in-Some.hole x) (matches c.args.pattern x) (c.in-Some.ensures x),
)
