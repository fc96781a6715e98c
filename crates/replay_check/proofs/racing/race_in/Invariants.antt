use Rattle.std.proofs.Common.{ℕ, List, take}
use Rattle.rv_script.specs.declared.access.Access.{Access}
use Rattle.foot_map.specs.Races.{IsRaceFree, IsFootprint}
use Rattle.tpl_admit.specs.Races.{footprint_of}
use Rattle.replay_check.specs.Internal.Racing.{with_accesses}
use Rattle.replay_check.proofs.racing.race_in.Given as goal

abbrev pub invariant-loop-i : goal.invariant-loop-i
invariant-loop-i l = record {
  footprint : (did : ℕ → List Access) → IsFootprint l.fn.feet did → IsFootprint l.feet (with_accesses did l.hart (footprint_of (take l.i l.records)));
  free : (did : ℕ → List Access) → IsFootprint l.fn.feet did → IsRaceFree did → IsRaceFree (with_accesses did l.hart (footprint_of (take l.i l.records)));
}
