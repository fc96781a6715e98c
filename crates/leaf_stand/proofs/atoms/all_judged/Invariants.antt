use Rattle.std.proofs.Common.{◌≡◌, drop}
use Rattle.leaf_link.specs.Cases.{all_judged}
use Rattle.leaf_stand.specs.Stands.{shape_at}
use Rattle.leaf_stand.proofs.atoms.all_judged.Given as goal

abbrev pub invariant-loop-atom : goal.invariant-loop-atom
invariant-loop-atom l = all_judged (shape_at l.shape) (drop l.atom-index l.leaf) ≡ all_judged (shape_at l.shape) l.leaf
