use Rattle.dom_set.specs.Elements.{is_in}
use Rattle.leaf_pose.proofs.AddressRows.{IsSoFar}
use Rattle.leaf_pose.proofs.extras.push_rows.Given as goal

abbrev pub invariant-loop-way : goal.invariant-loop-way
invariant-loop-way l = IsSoFar (is_in l.wanted) l.ways l.way-index l.fn.rows.items l.rows.items
