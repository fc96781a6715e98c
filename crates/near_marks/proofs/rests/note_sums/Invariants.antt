use Rattle.near_marks.specs.Internal.Rests.{AreRestsKept, HaveSumsWith}
use Rattle.near_marks.proofs.rests.note_sums.Given as goal

abbrev pub invariant-loop-other : goal.invariant-loop-other
invariant-loop-other l = record { noted : HaveSumsWith l.sums l.rest l.others l.other; kept : AreRestsKept l.initial.sums l.sums }
