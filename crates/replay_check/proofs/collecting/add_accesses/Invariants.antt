use Rattle.std.proofs.Common.{ℕ, List, take}
use Rattle.rv_script.specs.declared.access.Access.{Access}
use Rattle.foot_map.specs.Races.{IsFootprint}
use Rattle.replay_check.specs.Internal.Racing.{with_accesses}
use Rattle.replay_check.proofs.collecting.add_accesses.Given as goal

abbrev pub invariant-loop-x : goal.invariant-loop-x
invariant-loop-x l = (did : ℕ → List Access) → IsFootprint l.fn.feet did → IsFootprint l.feet (with_accesses did l.hart (take l.x-index l.accesses))
