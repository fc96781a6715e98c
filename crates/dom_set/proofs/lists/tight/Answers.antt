use Rattle.std.proofs.Common.{Option, IsNone, refl, sym, ap, ◌∙◌}
use Rattle.set_pieces.specs.declared.piece.Piece.{Piece}
use Rattle.set_pieces.specs.Internal.Pieces.{is_held}
use Rattle.set_pieces.proofs.Without.{whole_piece}
use Rattle.dom_set.proofs.lists.tight.Goals as goal

pub returns-in_err-run-in-None : goal.returns-in_err-run-in-None
returns-in_err-run-in-None c = λ x.
    let none : IsNone c.args.p.hole = rw (c.in-None.is) refl in
    ap (λ (o : Option Piece). is_held o x) c.from_residual.ensures ∙ c.in_err-run-in-None.ensures x ∙ sym (whole_piece c.args.p x none)

pub returns-in_ok-run-in-None : goal.returns-in_ok-run-in-None
returns-in_ok-run-in-None c = λ x.
    let none : IsNone c.args.p.hole = rw (c.in-None.is) refl in
    c.whole.ensures.held x ∙ c.in_ok-run-in-None.ensures x ∙ sym (whole_piece c.args.p x none)
