use Rattle.std.proofs.Common.{◌≡◌, ℕ}
use Rattle.dom_set.specs.Elements.{is_within}
use Rattle.row_parts.specs.Gaps.{is_in_gap}
use Rattle.row_parts.proofs.diagonal.gaps.Given as goal

abbrev pub invariant-loop-i : goal.invariant-loop-i
invariant-loop-i l = (x : ℕ) → is_within l.gaps.items x ≡ is_in_gap l.i x
