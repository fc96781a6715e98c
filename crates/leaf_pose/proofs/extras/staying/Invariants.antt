use Rattle.std.proofs.Common.{◌≡◌, ◌++◌, drop}
use Rattle.leaf_pose.specs.Extras.{stays_of}
use Rattle.leaf_pose.proofs.extras.staying.Given as goal

abbrev pub invariant-loop-shape : goal.invariant-loop-shape
invariant-loop-shape l = l.stay ++ stays_of l.stand l.bias (drop l.shape-index l.shapes) ≡ stays_of l.stand l.bias l.shapes
