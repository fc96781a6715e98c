use Rattle.std.proofs.Common.{◌≡◌}
use Rattle.fd_solve.proofs.sought.Narrow.note_tried.Given as goal

abbrev pub invariant-loop-place : goal.invariant-loop-place
invariant-loop-place l = l.self ≡ l.initial.self
