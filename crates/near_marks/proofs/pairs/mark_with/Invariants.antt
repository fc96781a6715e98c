use Rattle.std.proofs.Common.{take}
use Rattle.near_marks.specs.Internal.Near.{AreStillMarked, HaveNearWith}
use Rattle.near_marks.proofs.pairs.mark_with.Given as goal

abbrev pub invariant-loop-other : goal.invariant-loop-other
invariant-loop-other l = record { marked : HaveNearWith l.marks l.first (take l.other-index l.others); kept : AreStillMarked l.initial.marks l.marks }
