use Rattle.std.proofs.Common.{bit_and}
use Rattle.set_pieces.proofs.Times.{apart_below}
use Rattle.dom_set.proofs.Sets.{masked_is}
use Rattle.dom_set.proofs.set.Set.masked.Goals as goal

pub invariant_of-result : goal.invariant_of-result
invariant_of-result c = apart_below c.in_ok-pieces.pieces.items (λ x lt.
    rw (c.in_ok-pieces.ensures x lt, c.deref.ensures.value) (c.self.invariant (bit_and x c.args.mask)))

pub returns : goal.returns
returns c = rw (← c.self.view_is)
    (masked_is c.self.inside.pieces.items c.in_ok-pieces.pieces.items c.args.mask
    (λ x lt. rw (← c.deref.ensures.value) (c.in_ok-pieces.ensures x lt)))
