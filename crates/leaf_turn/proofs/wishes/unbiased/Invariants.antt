use Rattle.std.proofs.Common.{◌≡◌, ◌++◌, drop}
use Rattle.leaf_turn.specs.Wishes.{unbiased}
use Rattle.leaf_turn.proofs.wishes.unbiased.Given as goal

abbrev pub invariant-loop-wish : goal.invariant-loop-wish
invariant-loop-wish l = l.atoms.items ++ unbiased (drop l.wish-index l.wishes) ≡ unbiased l.wishes
