use Rattle.std.proofs.Common.{◌+◌, Bool, sym, ap, ◌∙◌, arith}
use Rattle.set_pieces.specs.Counting.{one}
use Rattle.set_pieces.specs.Internal.Patterns.{matches}
use Rattle.set_pieces.specs.Internal.Pieces.{in_piece, times}
use Rattle.set_pieces.proofs.Without.{narrow_same, within_all, and_no}
use Rattle.set_pieces.proofs.parts.push_unmatched.Goals as goal

pub returns-then-is_within : goal.returns-then-is_within
returns-then-is_within c = λ x. ap (λ (b : Bool). times c.args.out.now.items x + one b) (within_all c.args.p x (matches c.args.pattern x) (c.is_within.ensures c.if-is_within.true x))

pub returns-in_ok-push_holed-in-Some : goal.returns-in_ok-push_holed-in-Some
returns-in_ok-push_holed-in-Some c = λ x. omega (
  arith,
  c.in_ok-push_holed-in-Some.ensures x,
  ap one (narrow_same c.args.p x (matches c.in-Some.narrow x) (matches c.args.pattern x) (c.in-Some.ensures x)),
)

pub returns-in_ok-push_piece-in-None : goal.returns-in_ok-push_piece-in-None
returns-in_ok-push_piece-in-None c = λ x. omega (
  arith,
  c.in_ok-push_piece-in-None.ensures x,
  ap one (sym (narrow_same c.args.p x _ (matches c.args.pattern x) (c.in-None.ensures x)) ∙ and_no (in_piece c.args.p x)),
)
