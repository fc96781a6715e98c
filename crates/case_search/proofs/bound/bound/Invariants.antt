use Rattle.std.proofs.Common.{◌≡◌, ℕ, ◌<◌, length, slice_index}
use Rattle.case_search.proofs.Bounds.{IsNearest}
use Rattle.case_search.proofs.bound.bound.Given as goal

abbrev pub invariant-loop-i : goal.invariant-loop-i
invariant-loop-i l = record {
  long : length l.values ≡ 14;
  bound : (k : ℕ) → k < l.i → IsNearest l.pivots l.case k (slice_index l.values k);
}
