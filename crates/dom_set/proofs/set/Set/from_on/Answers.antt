use Rattle.std.proofs.Common.{leb, ◌^◌, arith}
use Rattle.dom_set.proofs.Sets.{clip_is, from_same}
use Rattle.dom_set.proofs.set.Set.from_on.Goals as goal

pub returns : goal.returns
returns c = rw (← c.self.view_is)
    (clip_is c.self.inside.pieces.items c.push_clipped.new.out.items c.args.x (2 ^ 32) (λ y. leb c.args.x y)
    (λ y. omega (arith, rw (c.from.ensures, c.deref.ensures.value, c.new-pieces.ensures.items) at (c.in_ok-push_clipped.ensures y)))
    (λ y lt. from_same c.args.x y lt))
