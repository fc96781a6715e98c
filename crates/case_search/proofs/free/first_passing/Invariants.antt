use Rattle.std.proofs.Common.{◌≡◌, ℕ, ◌<◌, ◌≤◌, ◌-◌, ◌^◌, true, false}
use Rattle.dom_set.specs.Elements.{is_in}
use Rattle.fd_prob.specs.Order.{rank}
use Rattle.case_search.specs.Internal.Free.{own_hold, put}
use Rattle.case_search.proofs.free.first_passing.Given as goal

abbrev pub invariant-loop-value : goal.invariant-loop-value
invariant-loop-value l = record {
  below : l.k ≤ 2 ^ 32;
  failed : (w : ℕ) → is_in l.domain w ≡ true → rank l.pivot w < l.k → own_hold l.op (put l.base l.slot w) l.slot l.rels ≡ false;
}

abbrev pub decreases-loop-value : goal.decreases-loop-value
decreases-loop-value l = 2 ^ 32 - l.k
