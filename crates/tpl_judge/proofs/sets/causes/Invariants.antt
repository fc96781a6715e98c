use Rattle.std.proofs.Common.{◌≡◌, ◌++◌, drop, map}
use Rattle.tpl_lang.specs.Sets.{points, outcome_number}
use Rattle.tpl_judge.proofs.sets.causes.Given as goal

abbrev pub invariant-loop-outcome : goal.invariant-loop-outcome
invariant-loop-outcome l = l.points.items ++ points (map outcome_number (drop l.outcome-index l.outcomes)) ≡ points (map outcome_number l.outcomes)
