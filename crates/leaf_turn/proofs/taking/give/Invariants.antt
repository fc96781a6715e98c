use Rattle.part_state.specs.State.{here}
use Rattle.leaf_link.specs.Answers.{values_in}
use Rattle.leaf_turn.specs.Answers.{AreKept}
use Rattle.leaf_turn.proofs.Giving.{AreGoing}
use Rattle.leaf_turn.proofs.taking.give.Given as goal

abbrev pub invariant-loop-place : goal.invariant-loop-place
invariant-loop-place l = record {
  going : AreGoing l.hart (values_in l.x) l.left (here l.fn.part) (here l.part);
  kept : AreKept l.fn.part l.part;
}

abbrev pub decreases-loop-place : goal.decreases-loop-place
decreases-loop-place l = l.left
