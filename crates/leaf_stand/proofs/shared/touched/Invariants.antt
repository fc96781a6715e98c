use Rattle.tpl_admit.specs.Truth.{trace_touches}
use Rattle.std.proofs.Common.{[]}
use Rattle.leaf_stand.proofs.Blocks.{IsSoFar}
use Rattle.leaf_stand.proofs.shared.touched.Given as goal

abbrev pub invariant-loop-records : goal.invariant-loop-records
invariant-loop-records l = IsSoFar (λ r v. trace_touches v r.now) l.others l.records-index [] l.spans.items
