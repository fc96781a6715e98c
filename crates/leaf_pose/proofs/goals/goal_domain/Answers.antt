use Rattle.leaf_pose.proofs.Accessing.{goal_set}
use Rattle.leaf_pose.proofs.goals.goal_domain.Goals as goal

pub returns : goal.returns
returns c =
    goal_set c.args.stand.now c.args.leaf.now c.args.op c.args.way.now c.args.goal c.args.slot c.shape_of-shape.result c.in_ok-open.«open» c.in_ok-cut.cut c.in_ok-left.left c.shape_of-shape.ensures c.in_ok-open.ensures c.in_ok-cut.ensures c.in_ok-left.ensures
