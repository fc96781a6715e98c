use Rattle.std.proofs.Common.{◌+◌, ◌-◌, ◌%◌, ◌^◌}
use Rattle.set_pieces.proofs.Times.{apart_below}
use Rattle.dom_set.proofs.Sets.{shift_is}
use Rattle.dom_set.proofs.set.Set.shift.Goals as goal

pub invariant_of-result : goal.invariant_of-result
invariant_of-result c = apart_below c.in_ok-pieces.pieces.items (λ y lt.
    rw (c.in_ok-pieces.ensures y lt, c.deref.ensures.value) (c.self.invariant ((y + (2 ^ 32 - c.args.distance)) % 2 ^ 32)))

pub returns : goal.returns
returns c = rw (← c.self.view_is)
    (shift_is c.self.inside.pieces.items c.in_ok-pieces.pieces.items c.args.distance
    (λ y lt. rw (← c.deref.ensures.value) (c.in_ok-pieces.ensures y lt)))
