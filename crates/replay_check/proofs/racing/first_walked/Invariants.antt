use Rattle.foot_map.specs.Races.{IsRaceFree, IsFootprint}
use Rattle.replay_check.specs.Failures.{did_before}
use Rattle.replay_check.proofs.racing.first_walked.Given as goal

abbrev pub invariant-loop-k : goal.invariant-loop-k
invariant-loop-k l = record {
  footprint : IsFootprint l.feet (did_before l.cert l.k 0);
  free : IsRaceFree (did_before l.cert l.k 0);
}
