use Rattle.dom_set.proofs.Sameness.{same_elements}
use Rattle.dom_set.proofs.set.Set.tightened.Goals as goal

pub invariant_of-result : goal.invariant_of-result
invariant_of-result c = λ x. rw (c.in_ok-pieces.ensures x, c.deref.ensures.value) (c.self.invariant x)

pub returns : goal.returns
returns c = rw (← c.self.view_is)
    (same_elements c.in_ok-pieces.pieces.items c.self.inside.pieces.items
    (λ x lt. rw (← c.deref.ensures.value) (c.in_ok-pieces.ensures x)))
