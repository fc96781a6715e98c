use Rattle.std.proofs.Common.{List, subst, sym}
use Rattle.set_pieces.specs.declared.piece.Piece.{Piece}
use Rattle.set_pieces.specs.Internal.Pieces.{holds}
use Rattle.set_pieces.specs.Ends.{IsLast}
use Rattle.dom_set.proofs.Lasts.{last_of_all, last_or_none}
use Rattle.dom_set.proofs.set.Set.greatest.Goals as goal

pub returns-clause-greatest : goal.returns-clause-greatest
returns-clause-greatest c = rw (← c.self.view_is)
    (sym (last_of_all c.self.inside.pieces.items c.last.result (subst (λ (ps : List Piece). IsLast (holds ps) c.last.result) c.deref.ensures.value c.last.ensures)))

pub returns-clause-none : goal.returns-clause-none
returns-clause-none c = rw (← c.self.view_is)
    (last_or_none c.self.inside.pieces.items c.last.result (subst (λ (ps : List Piece). IsLast (holds ps) c.last.result) c.deref.ensures.value c.last.ensures))
