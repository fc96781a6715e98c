use Rattle.std.proofs.Common.{◌≡◌, drop}
use Rattle.fd_solve.specs.Internal.Meeting.{meets_marked}
use Rattle.fd_solve.proofs.meeting.meets_marked.Given as goal

abbrev pub invariant-loop-i : goal.invariant-loop-i
invariant-loop-i l = meets_marked l.op l.x l.place (drop l.i l.marks) (drop l.i l.biases) ≡ meets_marked l.op l.x l.place l.marks l.biases
