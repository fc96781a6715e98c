use Rattle.std.proofs.Common.{◌≡◌, length}
use Rattle.problem_rows.proofs.reading.case_with.Given as goal

abbrev pub invariant-loop-slot : goal.invariant-loop-slot
invariant-loop-slot l = length l.doms.items ≡ l.slot-index
