use Rattle.std.proofs.Common.{◌≡◌, ℕ, ◌||◌, List, drop}
use Rattle.dom_set.specs.Counting.{one}
use Rattle.dom_set.specs.Elements.{is_in}
use Rattle.row_parts.specs.Forms.{times_in}
use Rattle.row_parts.proofs.forms.once.Given as goal

pub record Kept (kept rest values : List ℕ) : Type 0 where
  pub single : (w : ℕ) → times_in kept w ≡ one (is_in kept w)
  pub left : (w : ℕ) → (is_in kept w || is_in rest w) ≡ is_in values w

abbrev pub invariant-loop-value : goal.invariant-loop-value
invariant-loop-value l = Kept l.once.items (drop l.value-index l.values) l.values
