use Rattle.std.proofs.Common.{◌≡◌, ℕ, List, ◌++◌, drop, length}
use Rattle.fd_prob.specs.declared.slot.Slot.TheVariants as slots
use Rattle.fd_prob.specs.declared.slot.TheConstants.{SLOTS}
use Rattle.data_bytes.specs.Sets.{IsSetOf}
use Rattle.leaf_stand.specs.Sets.{AreDomains}
use Rattle.leaf_pose.specs.Goals.{near_domain}
use Rattle.leaf_pose.proofs.goals.goal_domains.Given as goal

abbrev pub invariant-loop-slot : goal.invariant-loop-slot
invariant-loop-slot l = record {
  each : IsSetOf (near_domain l.stand l.leaf l.op l.way l.goal slots.Ea) l.ea
      → (rest : List (List ℕ)) → AreDomains (near_domain l.stand l.leaf l.op l.way l.goal) (drop l.slot-index SLOTS) rest → AreDomains (near_domain l.stand l.leaf l.op l.way l.goal) SLOTS (l.doms.items ++ rest);
  length : length l.doms.items ≡ l.slot-index;
}
