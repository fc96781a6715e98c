use Rattle.std.proofs.Common.{take}
use Rattle.near_marks.specs.Internal.Near.{AreStillMarked, HaveNear}
use Rattle.near_marks.proofs.pairs.mark_block.Given as goal

abbrev pub invariant-loop-first : goal.invariant-loop-first
invariant-loop-first l = record { marked : HaveNear l.marks (take l.first-index l.firsts) l.others; kept : AreStillMarked l.initial.marks l.marks }
