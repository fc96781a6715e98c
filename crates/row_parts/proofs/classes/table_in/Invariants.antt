use Rattle.std.proofs.Common.{◌≡◌, ℕ, ◌<◌, Some, length, slice_get}
use Rattle.row_parts.specs.Classes.{entry_at}
use Rattle.row_parts.proofs.classes.table_in.Given as goal

abbrev pub invariant-loop-i : goal.invariant-loop-i
invariant-loop-i g l = (length l.table.items ≡ l.i) × ((k : ℕ) → k < l.i → slice_get l.table.items k ≡ Some (entry_at (g.M.Words.at l.m) l.frame k))
