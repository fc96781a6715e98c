use Rattle.std.proofs.Common.{List, subst}
use Rattle.set_pieces.specs.declared.piece.Piece.{Piece}
use Rattle.set_pieces.specs.Internal.Pieces.{holds}
use Rattle.set_pieces.specs.Ends.{HasPage}
use Rattle.dom_set.proofs.Sets.{page_in}
use Rattle.dom_set.proofs.set.Set.pages_end.Goals as goal

pub returns-clause-held : goal.returns-clause-held
returns-clause-held c = λ q from before. rw (← c.self.view_is)
    (page_in c.self.inside.pieces.items q (subst (λ (ps : List Piece). HasPage (holds ps) q) c.deref.ensures.value (c.pages_end.ensures.held q from before)))
