use Rattle.std.proofs.Common.{◌≡◌, drop}
use Rattle.std.specs.List.{list_any}
use Rattle.fd_prob.specs.Fitting.{fits, fits_case}
use Rattle.fd_solve.specs.Internal.Marks.{whole_of}
use Rattle.fd_solve.proofs.meeting.fits_marked.Given as goal

abbrev pub invariant-loop-place : goal.invariant-loop-place
invariant-loop-place l = list_any (fits_case l.x) (drop l.place (whole_of l.marked).cases) ≡ fits (whole_of l.marked) l.x
