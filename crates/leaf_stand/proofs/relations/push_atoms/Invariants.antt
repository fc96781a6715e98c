use Rattle.std.proofs.Common.{◌≡◌, ◌++◌, drop}
use Rattle.leaf_stand.specs.Relations.{atom_rels}
use Rattle.leaf_stand.proofs.relations.push_atoms.Given as goal

abbrev pub invariant-loop-atom : goal.invariant-loop-atom
invariant-loop-atom l = l.rels ++ atom_rels (drop l.atom-index l.leaf) ≡ l.initial.rels ++ atom_rels l.leaf
