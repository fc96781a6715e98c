use Rattle.std.proofs.Common.{◌≡◌, ℕ, ◌||◌, drop}
use Rattle.dom_set.specs.Elements.{is_in}
use Rattle.row_parts.specs.Forms.{is_page_in}
use Rattle.row_parts.proofs.forms.push_pages.Given as goal

abbrev pub invariant-loop-frame : goal.invariant-loop-frame
invariant-loop-frame l = (w : ℕ) → (is_in l.values.items w || is_page_in (drop l.frame-index l.pool) l.flags w) ≡ (is_in l.initial.values.items w || is_page_in l.pool l.flags w)
