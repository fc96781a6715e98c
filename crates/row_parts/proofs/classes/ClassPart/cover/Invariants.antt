use Rattle.std.proofs.Common.{◌≡◌, ℕ, ◌+◌, ◌<◌, ◌≤◌}
use Rattle.row_parts.specs.Classes.{has_class}
use Rattle.row_parts.proofs.classes.ClassPart.cover.Given as goal

abbrev pub invariant-loop-i : goal.invariant-loop-i
invariant-loop-i l = (k : ℕ) → l.first ≤ k → k < l.first + l.i → has_class l.self.table.now l.self.seen k ≡ l.same
