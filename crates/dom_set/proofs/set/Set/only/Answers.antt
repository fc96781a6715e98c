use Rattle.std.proofs.Common.{◌≡◌, ◌≢◌, ℕ, List, [], ◌∷◌, length, Option, MatchOption, Some, sym, ap, ◌∙◌, subst}
use Rattle.set_pieces.specs.declared.piece.Piece.{Piece}
use Rattle.set_pieces.specs.Internal.Pieces.{holds}
use Rattle.set_pieces.specs.Ends.{IsFirstFrom, IsLast}
use Rattle.dom_set.proofs.Lasts.{none_first, not_only, only_is}
use Rattle.dom_set.proofs.set.Set.only.Goals as goal

pub returns-in_err-least : goal.returns-in_err-least
returns-in_err-least c =
    let none : length c.args.self.now ≢ 1 = rw (← c.self.view_is) (none_first c.self.inside.pieces.items (λ x le. ap (λ (ps : List Piece). holds ps x) (sym c.deref.ensures.value) ∙ c.in_err-least.ensures x le)) in
    subst (λ (o : Option ℕ). MatchOption o (length c.args.self.now ≢ 1) (λ x. c.args.self.now ≡ x ∷ [])) (sym c.from_residual.ensures) none

pub returns-then-least-greatest : goal.returns-then-least-greatest
returns-then-least-greatest c = rw (← c.self.view_is)
    (only_is c.self.inside.pieces.items c.in_ok-least.least c.in_ok-greatest.greatest
    (subst (λ (ps : List Piece). IsFirstFrom (holds ps) 0 (Some c.in_ok-least.least)) c.deref.ensures.value c.in_ok-least.ensures)
    (subst (λ (ps : List Piece). IsLast (holds ps) (Some c.in_ok-greatest.greatest)) c.deref-2.ensures.value c.in_ok-greatest.ensures)
    c.if-least-greatest.true)

pub returns-else-least-greatest : goal.returns-else-least-greatest
returns-else-least-greatest c = rw (← c.self.view_is)
    (not_only c.self.inside.pieces.items c.in_ok-least.least c.in_ok-greatest.greatest
    (subst (λ (ps : List Piece). IsFirstFrom (holds ps) 0 (Some c.in_ok-least.least)) c.deref.ensures.value c.in_ok-least.ensures)
    (subst (λ (ps : List Piece). IsLast (holds ps) (Some c.in_ok-greatest.greatest)) c.deref-2.ensures.value c.in_ok-greatest.ensures)
    c.if-least-greatest.false)
