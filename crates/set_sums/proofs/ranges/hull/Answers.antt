use Rattle.std.proofs.Common.{ℕ, List, IsTrue, sym, subst}
use Rattle.std.proofs.lemmas.List.{take_all}
use Rattle.dom_set.specs.Elements.{is_within}
use Rattle.set_sums.proofs.ranges.hull.Goals as goal

pub returns : goal.returns
returns c = λ v h. c.loop-range.invariant v (subst (λ (d : List (ℕ × ℕ)). IsTrue (is_within d v)) (sym (take_all c.loop-range.range-index c.args.ranges.now c.loop-range-test.false)) h)
