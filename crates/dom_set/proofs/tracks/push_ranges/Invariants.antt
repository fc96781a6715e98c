use Rattle.std.proofs.Common.{◌≡◌, ℕ, ◌-◌, ◌<◌, ◌≤◌, true, false}
use Rattle.set_pieces.specs.Internal.Patterns.{matches}
use Rattle.dom_set.specs.Tracks.{is_on_one, AreKept}
use Rattle.dom_set.proofs.tracks.push_ranges.Given as goal

abbrev pub invariant-loop-from : goal.invariant-loop-from
invariant-loop-from l = record {
  covered : (x : ℕ) → l.fn.low ≤ x → x < l.from → x < l.end → matches l.hole x ≡ false → is_on_one l.tracks.items x ≡ true;
  kept : AreKept l.initial.tracks.items l.tracks.items;
}

abbrev pub decreases-loop-from : goal.decreases-loop-from
decreases-loop-from l = l.end - l.from
