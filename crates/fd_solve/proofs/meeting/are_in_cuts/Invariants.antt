use Rattle.std.proofs.Common.{◌≡◌, drop}
use Rattle.std.specs.List.{list_all}
use Rattle.fd_solve.specs.Internal.Meeting.{is_in_cut}
use Rattle.fd_solve.proofs.meeting.are_in_cuts.Given as goal

abbrev pub invariant-loop-slot : goal.invariant-loop-slot
invariant-loop-slot l = list_all (is_in_cut l.x) (drop l.slot-index l.cuts) ≡ list_all (is_in_cut l.x) l.cuts
