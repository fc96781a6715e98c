use Rattle.std.proofs.Common.{List, subst, sym}
use Rattle.set_pieces.specs.declared.piece.Piece.{Piece}
use Rattle.set_pieces.specs.Internal.Pieces.{holds}
use Rattle.set_pieces.specs.Ends.{IsFirstFrom}
use Rattle.dom_set.proofs.Sets.{first_of_all}
use Rattle.dom_set.proofs.set.Set.least.Goals as goal

pub returns : goal.returns
returns c = rw (← c.self.view_is)
    (sym (first_of_all c.self.inside.pieces.items c.first_from.result (subst (λ (ps : List Piece). IsFirstFrom (holds ps) 0 c.first_from.result) c.deref.ensures.value c.first_from.ensures)))
