use Rattle.std.proofs.Common.{false}
use Rattle.near_marks.specs.Internal.Rests.{HasGapLeavingFrom}
use Rattle.near_marks.proofs.rests.has_gap_leaving_from.Given as goal

abbrev pub invariant-loop-rest : goal.invariant-loop-rest
invariant-loop-rest l = HasGapLeavingFrom l.marks l.rests l.rest l.low l.high l.base false
