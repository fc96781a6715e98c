use Rattle.std.proofs.Common.{◌≡◌, take}
use Rattle.part_told.proofs.records.copy_traces.Given as goal

abbrev pub invariant-loop-trace : goal.invariant-loop-trace
invariant-loop-trace l = l.made ≡ take l.trace-index l.traces
