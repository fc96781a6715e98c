use Rattle.std.proofs.Common.{◌≡◌, drop}
use Rattle.std.specs.List.{list_any}
use Rattle.fd_prob.specs.Fitting.{fits_case}
use Rattle.fd_prob.proofs.fitting.fits.Given as goal

abbrev pub invariant-loop-case : goal.invariant-loop-case
invariant-loop-case l = list_any (fits_case l.x) (drop l.case-index l.case-items) ≡ list_any (fits_case l.x) l.case-items
