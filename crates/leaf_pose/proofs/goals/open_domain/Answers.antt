use Rattle.leaf_pose.proofs.Accessing.{all_entered}
use Rattle.leaf_pose.proofs.goals.open_domain.Goals as goal

pub returns-in_ok-all-in-FirstPte : goal.returns-in_ok-all-in-FirstPte
returns-in_ok-all-in-FirstPte c = all_entered c.args.stand.now c.args.leaf.now c.args.shape c.args.slot _ c.in-FirstPte.is c.in_ok-all-in-FirstPte.ensures
