use Rattle.dom_set.proofs.Sets.{minus_is}
use Rattle.dom_set.proofs.set.Set.minus.Goals as goal

pub returns : goal.returns
returns c = rw (← c.self.view_is, ← c.other.view_is)
    (minus_is c.self.inside.pieces.items c.other.inside.pieces.items c.in_ok-pieces.pieces.items
    (λ x. rw (← c.deref.ensures.value, ← c.deref-2.ensures.value) (c.in_ok-pieces.ensures x)))
