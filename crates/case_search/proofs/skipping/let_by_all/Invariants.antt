use Rattle.std.proofs.Common.{◌≡◌, ℕ, ◌<◌, ◌≤◌, ◌^◌, false, drop}
use Rattle.fd_prob.specs.Order.{rank}
use Rattle.case_search.specs.Internal.Skipping.{all_let}
use Rattle.case_search.proofs.skipping.let_by_all.Given as goal

abbrev pub invariant-loop-rel : goal.invariant-loop-rel
invariant-loop-rel l = record {
  from : l.k ≤ l.next;
  below : l.next ≤ 2 ^ 32;
  passed : (w : ℕ) → w < 2 ^ 32 → l.k ≤ rank l.pivot w → rank l.pivot w < l.next → all_let l.rels l.slot w ≡ false;
  there : (w : ℕ) → w < 2 ^ 32 → rank l.pivot w ≡ l.k → l.next ≡ l.k → all_let (drop l.rel-index l.rels) l.slot w ≡ all_let l.rels l.slot w;
}
