use Rattle.dom_set.proofs.Sets.{and_is}
use Rattle.dom_set.proofs.set.Set.and.Goals as goal

pub returns : goal.returns
returns c = rw (← c.self.view_is, ← c.other.view_is)
    (and_is c.self.inside.pieces.items c.other.inside.pieces.items c.in_ok-pieces.pieces.items c.self.invariant c.other.invariant
    (λ x. rw (← c.deref.ensures.value, ← c.deref-2.ensures.value) (c.in_ok-pieces.ensures x)))
