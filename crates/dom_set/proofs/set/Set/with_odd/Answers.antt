use Rattle.std.proofs.Common.{◌-◌, ◌%◌}
use Rattle.set_pieces.proofs.Times.{apart_below}
use Rattle.dom_set.proofs.Sets.{odd_is}
use Rattle.dom_set.proofs.set.Set.with_odd.Goals as goal

pub invariant_of-result : goal.invariant_of-result
invariant_of-result c = apart_below c.in_ok-pieces.pieces.items (λ x lt.
    rw (c.in_ok-pieces.ensures x lt, c.deref.ensures.value) (c.self.invariant (x - x % 2)))

pub returns : goal.returns
returns c = rw (← c.self.view_is)
    (odd_is c.self.inside.pieces.items c.in_ok-pieces.pieces.items
    (λ x lt. rw (← c.deref.ensures.value) (c.in_ok-pieces.ensures x lt)))
