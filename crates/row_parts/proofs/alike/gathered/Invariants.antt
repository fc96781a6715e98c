use Rattle.std.proofs.Common.{◌≡◌, ℕ, ◌+◌, All, length, List}
use Rattle.row_parts.specs.declared.alike.Group.{Group}
use Rattle.row_parts.specs.Alike.{Ends, IsAlike, times_held}
use Rattle.row_parts.specs.Forms.{times_in}
use Rattle.row_parts.proofs.alike.gathered.Given as goal

pub record Kept (ends : Ends) (groups : List Group) (rest values : List ℕ) : Type 0 where
  pub count : (w : ℕ) → times_held groups w + times_in rest w ≡ times_in values w
  pub same : All (IsAlike ends) groups

abbrev pub invariant-loop-entry : goal.invariant-loop-entry
invariant-loop-entry g l = Kept (g.E.Entries.ends l.choice) l.groups.items l.rest.items l.fn.values.items

abbrev pub decreases-loop-entry : goal.decreases-loop-entry
decreases-loop-entry g l = length l.rest.items
