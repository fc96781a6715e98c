use Rattle.std.proofs.Common.{◌≡◌, ℕ, List, ◌++◌, drop, length}
use Rattle.fd_prob.specs.declared.slot.TheConstants.{SLOTS}
use Rattle.leaf_stand.specs.Sets.{AreDomains}
use Rattle.leaf_stand.specs.Stands.{domain_at, turn_of}
use Rattle.leaf_stand.proofs.stand.Stand.domains.Given as goal

abbrev pub invariant-loop-slot : goal.invariant-loop-slot
invariant-loop-slot l = record {
  each : (rest : List (List ℕ)) → AreDomains (domain_at (turn_of l.self) l.leaf l.shape l.reads) (drop l.slot-index SLOTS) rest → AreDomains (domain_at (turn_of l.self) l.leaf l.shape l.reads) SLOTS (l.doms.items ++ rest);
  length : length l.doms.items ≡ l.slot-index;
}
