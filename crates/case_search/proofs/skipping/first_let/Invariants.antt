use Rattle.std.proofs.Common.{◌≡◌, ℕ, ◌<◌, ◌≤◌, ◌-◌, ◌^◌, true, false}
use Rattle.dom_set.specs.Elements.{is_in}
use Rattle.fd_prob.specs.Order.{rank}
use Rattle.case_search.specs.Internal.Skipping.{all_let}
use Rattle.case_search.proofs.skipping.first_let.Given as goal

abbrev pub invariant-loop-value : goal.invariant-loop-value
invariant-loop-value l = record {
  from : l.k ≤ l.next;
  below : l.next ≤ 2 ^ 32;
  passed : (w : ℕ) → is_in l.domain w ≡ true → l.k ≤ rank l.pivot w → rank l.pivot w < l.next → all_let l.rels l.slot w ≡ false;
}

abbrev pub decreases-loop-value : goal.decreases-loop-value
decreases-loop-value l = 2 ^ 32 - l.next
