use Rattle.leaf_pose.proofs.Whole.{pivots_are}
use Rattle.leaf_pose.proofs.problem.pivots.Goals as goal

pub returns : goal.returns
returns c = pivots_are c.args.draws.now
