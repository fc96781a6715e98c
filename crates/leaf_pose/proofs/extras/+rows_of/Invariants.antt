use Rattle.std.proofs.Common.{length}
use Rattle.leaf_pose.proofs.extras.+rows_of.Given as goal

abbrev pub decreases-rows_of : goal.decreases-rows_of
decreases-rows_of l = length l.ways.now
