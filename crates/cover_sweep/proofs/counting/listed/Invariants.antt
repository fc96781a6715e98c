use Rattle.std.proofs.Common.{◌≡◌, ◌++◌, drop}
use Rattle.cover_sweep.specs.Counts.{counts_by}
use Rattle.cover_sweep.proofs.counting.listed.Given as goal

abbrev pub invariant-loop-op : goal.invariant-loop-op
invariant-loop-op l = l.counts.items ++ counts_by l.totals (drop l.op-index l.ops) ≡ counts_by l.totals l.ops
