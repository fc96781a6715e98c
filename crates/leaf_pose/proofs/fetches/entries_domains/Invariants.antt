use Rattle.std.proofs.Common.{◌≡◌, ℕ, List, ◌++◌, drop, length}
use Rattle.fd_prob.specs.declared.slot.TheConstants.{SLOTS}
use Rattle.leaf_pose.specs.Fetches.{entries_at}
use Rattle.data_bytes.specs.Sets.{IsSetOf}
use Rattle.leaf_stand.specs.Sets.{AreEach}
use Rattle.leaf_stand.specs.Stands.{turn_of}
use Rattle.leaf_pose.proofs.fetches.entries_domains.Given as goal

abbrev pub invariant-loop-slot : goal.invariant-loop-slot
invariant-loop-slot l = record {
  each : (rest : List (List ℕ)) → AreEach (λ r set. IsSetOf (entries_at (turn_of l.stand) l.way l.end r) set) (drop l.slot-index SLOTS) rest → AreEach (λ r set. IsSetOf (entries_at (turn_of l.stand) l.way l.end r) set) SLOTS (l.doms.items ++ rest);
  length : length l.doms.items ≡ l.slot-index;
}
