use Rattle.part_state.specs.State.{here}
use Rattle.leaf_link.specs.Answers.{values_in}
use Rattle.leaf_turn.specs.Answers.{AreKept}
use Rattle.leaf_turn.proofs.Fetches.{AreEntering}
use Rattle.leaf_turn.proofs.entering.enter.Given as goal

abbrev pub invariant-loop-addr : goal.invariant-loop-addr
invariant-loop-addr l = record {
  going : AreEntering l.hart (values_in l.x) l.left (here l.fn.part) (here l.part);
  kept : AreKept l.fn.part l.part;
}

abbrev pub decreases-loop-addr : goal.decreases-loop-addr
decreases-loop-addr l = l.left
