use Rattle.dom_set.proofs.Walks.{BeginInOrder}
use Rattle.dom_set.proofs.lists.ascend.Given as goal

abbrev pub invariant-loop-i : goal.invariant-loop-i
invariant-loop-i l = BeginInOrder l.pieces l.i
