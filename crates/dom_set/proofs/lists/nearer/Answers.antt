use Rattle.std.proofs.Common.{ℕ, ◌≤◌, ◌||◌, Bool, Option, Some, ap, subst, arith}
use Rattle.set_pieces.specs.declared.piece.Piece.{Piece}
use Rattle.set_pieces.specs.Internal.Pieces.{in_piece}
use Rattle.set_pieces.specs.Ends.{IsFirstFrom}
use Rattle.dom_set.proofs.Merging.{below_first}
use Rattle.dom_set.proofs.lists.nearer.Goals as goal

first_stays : (t : ℕ → Bool) (p : Piece) (from v : ℕ) → v ≤ p.run.low → IsFirstFrom t from (Some v) → IsFirstFrom (λ x. t x || in_piece p x) from (Some v)
first_stays t p from v near is = (
  ap (λ (b : Bool). b || in_piece p v) is.0,
  is.1,
  λ x le lt. (λ i. is.2 x le lt i || below_first p x (omega (arith, near, lt)) i),
)

pub returns-in-Some : goal.returns-in-Some
returns-in-Some c = λ t is. first_stays t c.args.p c.args.from c.in-Some.x c.if-x-p.true (subst (λ (o : Option ℕ). IsFirstFrom t c.args.from o) c.in-Some.is is)
