use Rattle.std.proofs.Common.{take}
use Rattle.set_sums.specs.Internal.Remainders.{AreClasses}
use Rattle.set_sums.proofs.remainders.classes_of.Given as goal

abbrev pub invariant-loop-first : goal.invariant-loop-first
invariant-loop-first l = AreClasses l.classes.items (take l.first-index l.firsts) l.others l.times l.count
