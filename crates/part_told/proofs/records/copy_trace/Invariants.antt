use Rattle.std.proofs.Common.{◌≡◌, take}
use Rattle.part_told.proofs.records.copy_trace.Given as goal

abbrev pub invariant-loop-done : goal.invariant-loop-done
invariant-loop-done l = l.made ≡ take l.done-index l.trace
