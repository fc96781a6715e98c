use Rattle.gen_turn.proofs.Drops.{IsCounting}
use Rattle.gen_turn.proofs.dropping.bias_atom.Given as goal

abbrev pub invariant-loop-wish : goal.invariant-loop-wish
invariant-loop-wish l = IsCounting l.wishes l.bias l.wish-index l.atom l.left
