use Rattle.std.proofs.Common.{◌≡◌, ◌||◌, List, drop}
use Rattle.rv_mem.specs.declared.words.Seen.{Seen}
use Rattle.dom_set.specs.Counting.{one}
use Rattle.row_parts.specs.Classes.{any_seen, times_seen}
use Rattle.row_parts.proofs.classes.listed_once.Given as goal

pub record Kept (kept rest table : List Seen) : Type 0 where
  pub single : (s : Seen) → times_seen kept s ≡ one (any_seen kept s)
  pub left : (s : Seen) → (any_seen kept s || any_seen rest s) ≡ any_seen table s

abbrev pub invariant-loop-seen : goal.invariant-loop-seen
invariant-loop-seen l = Kept l.kinds.items (drop l.seen-index l.table) l.table
