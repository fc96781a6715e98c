use Rattle.leaf_turn.proofs.Data.{AreSoFar}
use Rattle.leaf_turn.proofs.memory.ranges_of.Given as goal

abbrev pub invariant-loop-entry : goal.invariant-loop-entry
invariant-loop-entry l = AreSoFar l.ptes l.entry-index l.ranges.items
