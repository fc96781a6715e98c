use Rattle.std.proofs.Common.{◌≡◌, ◌||◌, length}
use Rattle.fd_prob.specs.declared.problem.Assignment.{Assignment}
use Rattle.fd_prob.specs.Order.{IsAssignment}
use Rattle.leaf_pose.specs.Extras.{in_rows}
use Rattle.leaf_pose.proofs.extras.put_rows.Given as goal

abbrev pub invariant-loop-row : goal.invariant-loop-row
invariant-loop-row l = (x : Assignment) → IsAssignment x → (in_rows x l.rows.items || in_rows x l.left.items) ≡ (in_rows x l.initial.rows.items || in_rows x l.initial.left.items)

abbrev pub decreases-loop-row : goal.decreases-loop-row
decreases-loop-row l = length l.left.items
