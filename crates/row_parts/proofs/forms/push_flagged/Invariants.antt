use Rattle.std.proofs.Common.{◌≡◌, ℕ, ◌||◌, drop}
use Rattle.dom_set.specs.Elements.{is_in}
use Rattle.row_parts.specs.Forms.{with_flag}
use Rattle.row_parts.proofs.forms.push_flagged.Given as goal

abbrev pub invariant-loop-flag : goal.invariant-loop-flag
invariant-loop-flag l = (w : ℕ) → (is_in l.values.items w || with_flag l.leaf (drop l.flag-index l.flags) w) ≡ (is_in l.initial.values.items w || with_flag l.leaf l.flags w)
