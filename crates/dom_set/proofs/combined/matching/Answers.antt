use Rattle.std.proofs.Common.{List, ap, ◌∙◌}
use Rattle.set_pieces.specs.declared.piece.Piece.{Piece}
use Rattle.set_pieces.specs.Internal.Pieces.{holds}
use Rattle.set_pieces.proofs.Times.{holds_once, one_most}
use Rattle.dom_set.proofs.combined.matching.Goals as goal

pub returns-clause-apart : goal.returns-clause-apart
returns-clause-apart c = λ x. one_most (holds c.deref.result.now x) _ (c.in_ok-apart.ensures x)

pub returns-clause-held : goal.returns-clause-held
returns-clause-held c = λ x lt. holds_once c.in_ok-apart.apart.items x (holds c.deref.result.now x) (c.in_ok-apart.ensures x)
    ∙ ap (λ (ps : List Piece). holds ps x) c.deref.ensures.value
    ∙ c.in_ok-pieces.ensures x lt
