use Rattle.std.proofs.Common.{◌≡◌, drop}
use Rattle.leaf_turn.specs.Built.{all_let}
use Rattle.leaf_turn.proofs.built.all_let.Given as goal

abbrev pub invariant-loop-wish : goal.invariant-loop-wish
invariant-loop-wish l = all_let (drop l.wish-index l.wishes) l.var l.value ≡ all_let l.wishes l.var l.value
