use Rattle.set_sums.specs.Internal.Remainders.{HasRemaindersBelow}
use Rattle.set_sums.proofs.remainders.remainders.Given as goal

abbrev pub invariant-loop-remainder : goal.invariant-loop-remainder
invariant-loop-remainder l = HasRemaindersBelow l.set l.remainder l.found.items
