use Rattle.std.proofs.Common.{◌≡◌, ℕ, ◌+◌, ◌-◌, ◌^◌, ◌<◌, ◌≤◌, ◌&&◌, not, bit_and, nat_le, nat_lt}
use Rattle.set_pieces.specs.Counting.{one}
use Rattle.set_pieces.specs.Internal.Patterns.{matches, is_matched}
use Rattle.set_pieces.specs.Internal.Pieces.{times}
use Rattle.set_pieces.proofs.masked.push_range.Given as goal

abbrev pub invariant-loop-low : goal.invariant-loop-low
invariant-loop-low l = record {
  from : l.from ≤ l.low;
  to : l.low ≤ l.end;
  held : (x : ℕ) → x < 2 ^ 32 → times l.out.items x ≡ times l.initial.out.items x +
      one ((nat_le l.from (bit_and x l.mask) && nat_lt (bit_and x l.mask) l.low) && (matches l.pattern x && not (is_matched l.hole x)));
}

abbrev pub decreases-loop-low : goal.decreases-loop-low
decreases-loop-low l = l.end - l.low
