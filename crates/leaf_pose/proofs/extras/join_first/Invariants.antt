use Rattle.std.proofs.Common.{false}
use Rattle.leaf_pose.specs.Extras.{AreJoined}
use Rattle.leaf_pose.proofs.extras.join_first.Given as goal

abbrev pub invariant-loop-there : goal.invariant-loop-there
invariant-loop-there l = AreJoined false l.row l.fn.rows l.rows
