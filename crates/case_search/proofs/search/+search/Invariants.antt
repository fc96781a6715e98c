use Rattle.std.proofs.Common.{◌≤◌, ◌-◌, ◌^◌}
use Rattle.case_search.proofs.Searching.{Tried}
use Rattle.case_search.proofs.search.+search.Given as goal

abbrev pub decreases-search : goal.decreases-search
decreases-search l = 14 - l.place

abbrev pub invariant-loop-value : goal.invariant-loop-value
invariant-loop-value l = record {
  below : l.k ≤ 2 ^ 32;
  tried : Tried l.case l.doms l.slot l.pivot l.k;
}

abbrev pub decreases-loop-value : goal.decreases-loop-value
decreases-loop-value l = 2 ^ 32 - l.k
