use Rattle.std.proofs.Common.{ℕ, List, take}
use Rattle.rv_script.specs.declared.access.Access.{Access}
use Rattle.foot_map.specs.Races.{IsFootprint}
use Rattle.tpl_admit.specs.Races.{footprint_of}
use Rattle.replay_check.specs.Internal.Racing.{with_accesses}
use Rattle.replay_check.proofs.collecting.add_records.Given as goal

abbrev pub invariant-loop-record : goal.invariant-loop-record
invariant-loop-record l = (did : ℕ → List Access) → IsFootprint l.fn.feet did → IsFootprint l.feet (with_accesses did l.hart (footprint_of (take l.record-index l.records)))
