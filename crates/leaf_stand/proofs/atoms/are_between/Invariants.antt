use Rattle.std.proofs.Common.{◌≡◌, drop}
use Rattle.leaf_stand.specs.Relations.{are_between}
use Rattle.leaf_stand.proofs.atoms.are_between.Given as goal

abbrev pub invariant-loop-atom : goal.invariant-loop-atom
invariant-loop-atom l = are_between (drop l.atom-index l.leaf) ≡ are_between l.leaf
