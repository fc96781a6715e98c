use Rattle.std.proofs.Common.{ltb, arith}
use Rattle.dom_set.proofs.Sets.{clip_is, below_same}
use Rattle.dom_set.proofs.set.Set.below.Goals as goal

pub returns : goal.returns
returns c = rw (← c.self.view_is)
    (clip_is c.self.inside.pieces.items c.push_clipped.new.out.items 0 c.args.x (λ y. ltb y c.args.x)
    (λ y. omega (arith, rw (c.from.ensures, c.deref.ensures.value, c.new-pieces.ensures.items) at (c.in_ok-push_clipped.ensures y)))
    (λ y lt. below_same c.args.x y))
