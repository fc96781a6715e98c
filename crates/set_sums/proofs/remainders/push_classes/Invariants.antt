use Rattle.std.proofs.Common.{take}
use Rattle.set_sums.specs.Internal.Remainders.{AreClassesOf, AreSameClasses}
use Rattle.set_sums.proofs.remainders.push_classes.Given as goal

abbrev pub invariant-loop-other : goal.invariant-loop-other
invariant-loop-other l = record { classes : AreClassesOf l.classes.items l.first (take l.other-index l.others) l.times l.count; kept : AreSameClasses l.initial.classes.items l.classes.items }
