use Rattle.std.proofs.Common.{◌≡◌, ℕ, List, ◌++◌, drop, length}
use Rattle.fd_prob.specs.declared.slot.TheConstants.{SLOTS}
use Rattle.leaf_link.specs.Firsts.{IsDomain}
use Rattle.leaf_stand.specs.Internal.FirstCases.{fetch_first_at}
use Rattle.leaf_stand.specs.Sets.{AreEach}
use Rattle.leaf_stand.proofs.stand.Stand.fetch_first_domains.Given as goal

abbrev pub invariant-loop-slot : goal.invariant-loop-slot
invariant-loop-slot l = record {
  each : (rest : List (List ℕ)) → AreEach (λ r set. IsDomain set (fetch_first_at l.self l.first l.second r)) (drop l.slot-index SLOTS) rest → AreEach (λ r set. IsDomain set (fetch_first_at l.self l.first l.second r)) SLOTS (l.doms.items ++ rest);
  length : length l.doms.items ≡ l.slot-index;
}
