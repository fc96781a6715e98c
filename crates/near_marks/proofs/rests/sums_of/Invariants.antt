use Rattle.near_marks.specs.Internal.Rests.{HaveSumsOf}
use Rattle.near_marks.proofs.rests.sums_of.Given as goal

abbrev pub invariant-loop-rest : goal.invariant-loop-rest
invariant-loop-rest l = HaveSumsOf l.sums l.firsts l.rest l.others
