use Rattle.std.proofs.Common.{◌≡◌, ℕ, ◌||◌, drop}
use Rattle.dom_set.specs.Elements.{is_in, is_within}
use Rattle.row_parts.proofs.numbers.singles.Given as goal

abbrev pub invariant-loop-value : goal.invariant-loop-value
invariant-loop-value l = (w : ℕ) → (is_within l.ranges.items w || is_in (drop l.value-index l.values) w) ≡ is_in l.values w
