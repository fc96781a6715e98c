use Rattle.std.proofs.Common.{◌≡◌, ℕ, List, ◌++◌, drop, length}
use Rattle.fd_prob.specs.declared.slot.TheConstants.{SLOTS}
use Rattle.leaf_link.specs.Cases.{domain}
use Rattle.leaf_stand.specs.Sets.{AreDomains}
use Rattle.leaf_stand.specs.Stands.{turn_of}
use Rattle.leaf_pose.specs.Internal.Csrs.{access_way}
use Rattle.leaf_pose.proofs.csrs.access_domains.Given as goal

abbrev pub invariant-loop-slot : goal.invariant-loop-slot
invariant-loop-slot l = record {
  each : (rest : List (List ℕ)) → AreDomains (domain (turn_of l.stand) 0 l.leaf l.op (access_way l.stand l.op l.access)) (drop l.slot-index SLOTS) rest → AreDomains (domain (turn_of l.stand) 0 l.leaf l.op (access_way l.stand l.op l.access)) SLOTS (l.doms.items ++ rest);
  length : length l.doms.items ≡ l.slot-index;
}
