use Rattle.dom_set.proofs.Sets.{either_is}
use Rattle.dom_set.proofs.set.Set.or.Goals as goal

pub returns : goal.returns
returns c = rw (← c.self.view_is, ← c.other.view_is)
    (either_is c.self.inside.pieces.items c.other.inside.pieces.items c.in_ok-pieces.pieces.items
    (λ x. rw (← c.deref.ensures.value, ← c.deref-2.ensures.value) (c.in_ok-pieces.ensures x)))
