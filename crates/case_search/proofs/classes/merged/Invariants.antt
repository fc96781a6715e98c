use Rattle.std.proofs.Common.{◌≡◌, length, slice_index}
use Rattle.fd_prob.specs.declared.problem.Assignment.{Assignment}
use Rattle.case_search.specs.Internal.Classes.{AreClasses}
use Rattle.case_search.proofs.classes.merged.Given as goal

abbrev pub invariant-loop-place : goal.invariant-loop-place
invariant-loop-place l = record {
  long : length l.made ≡ 14;
  classes : (x : Assignment) → AreClasses l.classes x → slice_index x.values l.from ≡ slice_index x.values l.to → AreClasses l.made x;
}
