use Rattle.std.proofs.Common.{◌≡◌, ℕ, ◌<◌, ◌≤◌}
use Rattle.row_parts.specs.Classes.{entry_at}
use Rattle.addr_rows.proofs.root_entries.RootEntries.are_entries_same.Given as goal

abbrev pub invariant-loop-i : goal.invariant-loop-i
invariant-loop-i g l = (k : ℕ) → l.self.indices.first ≤ k → k < l.i → entry_at (g.M.Words.at l.self.memory.now) l.f k ≡ entry_at (g.M.Words.at l.self.memory.now) l.g k
