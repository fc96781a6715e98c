use Rattle.std.proofs.Common.{◌∙◌, true}
use Rattle.dom_set.proofs.Sets.{elements_same, in_all}
use Rattle.set_pieces.specs.Internal.Pieces.{holds}
use Rattle.dom_set.proofs.set.Set.all.Goals as goal

pub returns : goal.returns
returns c = elements_same (holds c.in_ok-pieces.pieces.items) (λ x. true) (λ x lt. c.in_ok-pieces.ensures.held x lt ∙ in_all x lt)
