use Rattle.std.proofs.Common.{◌≡◌, ◌++◌, drop, map}
use Rattle.leaf_turn.specs.Wishes.{biases_of}
use Rattle.leaf_turn.proofs.wishes.biases_of.Given as goal

abbrev pub invariant-loop-wish : goal.invariant-loop-wish
invariant-loop-wish l = map (λ b. b.items) l.biases.items ++ biases_of (drop l.wish-index l.wishes) ≡ biases_of l.wishes
