use Rattle.std.proofs.Common.{◌<◌, All}
use Rattle.rows.proofs.runs.schedule_of.Given as goal

abbrev pub invariant-loop-word : goal.invariant-loop-word
invariant-loop-word l = All (λ k. k < l.count) l.schedule.items
