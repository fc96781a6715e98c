use Rattle.std.proofs.Common.{IsTrue, arith}
use Rattle.dom_set.specs.Elements.{is_within}
use Rattle.set_sums.proofs.Members.{element}
use Rattle.set_sums.proofs.Spans.{singled}
use Rattle.set_sums.proofs.ranges.elements.Goals as goal

pub loop-i-preserved : goal.loop-i-preserved
loop-i-preserved c k d lt = singled c.args.set.now c.loop-i.parts.items c.push.new.self.items c.loop-i.i c.nth-value.result k d c.nth-value.ensures c.in_ok-push.ensures.items c.loop-i.invariant lt

pub returns : goal.returns
returns c v h = element (λ w. IsTrue (is_within c.loop-i.parts.items w)) c.args.set.now v (λ k d below. c.loop-i.invariant k d (omega (arith, below, c.loop-i-test.false, c.size-i-end.ensures.size))) h
