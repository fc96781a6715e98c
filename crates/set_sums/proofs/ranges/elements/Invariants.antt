use Rattle.std.proofs.Common.{ℕ, ◌<◌, get_or, IsTrue}
use Rattle.dom_set.specs.Elements.{is_within}
use Rattle.set_sums.proofs.ranges.elements.Given as goal

abbrev pub invariant-loop-i : goal.invariant-loop-i
invariant-loop-i l = (k d : ℕ) → k < l.i → IsTrue (is_within l.parts.items (get_or l.set k d))
