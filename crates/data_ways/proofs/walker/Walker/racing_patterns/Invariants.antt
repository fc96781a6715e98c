use Rattle.std.proofs.Common.{◌≡◌, ℕ, ◌<◌, ◌^◌, ◌&&◌, nat_lt}
use Rattle.dom_set.specs.Elements.{is_matching}
use Rattle.data_ways.specs.Internal.Barring.{races}
use Rattle.data_ways.specs.Internal.Tables.{entry_of, index_at}
use Rattle.data_ways.proofs.walker.Walker.racing_patterns.Given as goal

abbrev pub invariant-loop-index : goal.invariant-loop-index
invariant-loop-index g l =
    (ea : ℕ) → ea < 2 ^ 32 → is_matching l.patterns.items ea ≡ (nat_lt (index_at l.level ea) l.index && races (g.M.Words.at l.self.memory.now) l.self.feet.now l.self.hart (entry_of l.level l.frame ea))
