use Rattle.std.proofs.Common.{◌≡◌, drop}
use Rattle.leaf_turn.specs.Entering.{are_free_walks}
use Rattle.leaf_turn.proofs.entering.are_free_walks.Given as goal

abbrev pub invariant-loop-entry : goal.invariant-loop-entry
invariant-loop-entry l = are_free_walks l.feet l.hart (drop l.entry-index l.entries) ≡ are_free_walks l.feet l.hart l.entries
