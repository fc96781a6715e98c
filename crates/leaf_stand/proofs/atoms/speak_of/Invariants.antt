use Rattle.std.proofs.Common.{◌≡◌, drop}
use Rattle.leaf_stand.specs.Relations.{speak_of}
use Rattle.leaf_stand.proofs.atoms.speak_of.Given as goal

abbrev pub invariant-loop-atom : goal.invariant-loop-atom
invariant-loop-atom l = speak_of (drop l.atom-index l.leaf) l.var ≡ speak_of l.leaf l.var
