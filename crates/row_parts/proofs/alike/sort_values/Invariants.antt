use Rattle.std.proofs.Common.{◌≡◌, ℕ, ◌+◌, ◌≤◌, All, length, List, drop}
use Rattle.row_parts.specs.Alike.{Ends, LeadAlike}
use Rattle.row_parts.specs.Forms.{times_in}
use Rattle.row_parts.proofs.alike.sort_values.Given as goal

pub record Kept (ends : Ends) (entry : ℕ) (alike others alike_before others_before rest values : List ℕ) (index : ℕ) : Type 0 where
  pub count : (w : ℕ) → times_in alike w + (times_in others w + times_in rest w) ≡ times_in alike_before w + (times_in others_before w + times_in values w)
  pub same : All (LeadAlike ends entry) alike
  pub few : length others ≤ length others_before + index

abbrev pub invariant-loop-value : goal.invariant-loop-value
invariant-loop-value g l = Kept (g.E.Entries.ends l.choice) l.entry l.alike.items l.others.items l.initial.alike.items l.initial.others.items (drop l.value-index l.values) l.values l.value-index
