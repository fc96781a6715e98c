use Rattle.std.proofs.Common.{◌≡◌, drop}
use Rattle.std.specs.List.{list_any}
use Rattle.tpl_admit.specs.Truth.{trace_touches}
use Rattle.tpl_admit.proofs.moment.any_touches.Given as goal

abbrev pub invariant-loop-records : goal.invariant-loop-records
invariant-loop-records l = list_any (trace_touches l.p) (drop l.records-index l.others) ≡ list_any (trace_touches l.p) l.others
