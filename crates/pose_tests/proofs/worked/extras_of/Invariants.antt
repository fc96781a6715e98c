use Rattle.std.proofs.Common.{◌≡◌, All, length}
use Rattle.pose_tests.proofs.worked.extras_of.Given as goal

abbrev pub invariant-loop-i : goal.invariant-loop-i
invariant-loop-i g l = All (λ e. length e.cases ≡ length l.posed.shapes) l.extras.items
