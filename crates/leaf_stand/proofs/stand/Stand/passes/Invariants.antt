use Rattle.std.proofs.Common.{◌≡◌, drop}
use Rattle.leaf_link.specs.Cases.{all_tests}
use Rattle.leaf_stand.specs.Stands.{turn_of}
use Rattle.leaf_stand.proofs.stand.Stand.passes.Given as goal

abbrev pub invariant-loop-atom : goal.invariant-loop-atom
invariant-loop-atom l = all_tests (turn_of l.self) (drop l.atom-index l.leaf) l.var l.value ≡ all_tests (turn_of l.self) l.leaf l.var l.value
