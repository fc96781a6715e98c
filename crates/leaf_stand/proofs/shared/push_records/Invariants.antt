use Rattle.tpl_admit.specs.Truth.{record_touches}
use Rattle.leaf_stand.proofs.Blocks.{IsSoFar}
use Rattle.leaf_stand.proofs.shared.push_records.Given as goal

abbrev pub invariant-loop-record : goal.invariant-loop-record
invariant-loop-record l = IsSoFar (λ r v. record_touches v r) l.records l.record-index l.fn.spans.items l.spans.items
