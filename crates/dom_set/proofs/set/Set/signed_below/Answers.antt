use Rattle.std.proofs.Common.{arith}
use Rattle.dom_set.proofs.Sets.{clip_is, less_negative, signed_is}
use Rattle.dom_set.proofs.set.Set.signed_below.Goals as goal

pub returns-then-x-ge-LEAST : goal.returns-then-x-ge-LEAST
returns-then-x-ge-LEAST c = rw (← c.self.view_is)
    (clip_is c.self.inside.pieces.items c.push_clipped.new.out.items 2147483648 c.args.x _
    (λ y. omega (arith, rw (c.from.ensures, c.from-then-x-ge-LEAST.ensures, c.deref.ensures.value, c.new-pieces.ensures.items) at (c.in_ok-push_clipped.ensures y)))
    (λ y lt. less_negative c.args.x y c.if-x-ge-LEAST.true c.ranges.x.fits lt))

pub returns : goal.returns
returns c = rw (← c.self.view_is)
    (signed_is c.self.inside.pieces.items c.push_clipped-3.new.out.items c.args.x c.if-x-ge-LEAST.false
    (λ y. omega (
      arith,
      rw (c.from-2.ensures, c.deref-2.ensures.value, c.new-pieces.ensures.items) at (c.in_ok-push_clipped-2.ensures y),
      rw (c.from-3.ensures, c.deref-3.ensures.value) at (c.in_ok-push_clipped-3.ensures y),
    )))
