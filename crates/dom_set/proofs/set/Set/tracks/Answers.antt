use Rattle.dom_set.proofs.Spans.{held_element}
use Rattle.dom_set.proofs.set.Set.tracks.Goals as goal

pub returns : goal.returns
returns c = rw (← c.self.view_is) (λ x inside. rw c.deref.ensures.value at c.in_ok-tracks.ensures x (held_element c.self.inside.pieces.items x inside))
