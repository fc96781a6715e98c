use Rattle.foot_map.specs.Races.{IsFootprint}
use Rattle.replay_check.specs.Failures.{did_before}
use Rattle.replay_check.proofs.collecting.has_race.Given as goal

abbrev pub invariant-loop-k : goal.invariant-loop-k
invariant-loop-k l = IsFootprint l.feet (did_before l.cert l.k 0)
