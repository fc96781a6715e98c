use Rattle.std.proofs.Common.{◌&&◌, Option, ap, ◌∙◌, arith}
use Rattle.set_pieces.specs.declared.pattern.Pattern.{Pattern}
use Rattle.set_pieces.specs.Counting.{one}
use Rattle.set_pieces.specs.Internal.Patterns.{is_matched}
use Rattle.set_pieces.specs.Internal.Pieces.{in_piece}
use Rattle.set_pieces.proofs.Without.{and_no}
use Rattle.set_pieces.proofs.parts.push_outside_hole.Goals as goal

pub returns-in_ok-push_unmatched-in-Some : goal.returns-in_ok-push_unmatched-in-Some
returns-in_ok-push_unmatched-in-Some c = λ x. omega (
  arith,
  c.in_ok-push_unmatched-in-Some.ensures x,
  ap (λ (o : Option Pattern). one (in_piece c.args.p x && is_matched o x)) c.in-Some.is,
)

pub returns-in_ok-push_piece-in-None : goal.returns-in_ok-push_piece-in-None
returns-in_ok-push_piece-in-None c = λ x. omega (
  arith,
  c.in_ok-push_piece-in-None.ensures x,
  ap (λ (o : Option Pattern). one (in_piece c.args.p x && is_matched o x)) c.in-None.is ∙ ap one (and_no (in_piece c.args.p x)),
)
