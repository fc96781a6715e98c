use Rattle.std.proofs.Common.{◌≡◌, ℕ, true, false}
use Rattle.set_pieces.specs.Internal.Patterns.{matches_below}
use Rattle.set_pieces.specs.Internal.Runs.{in_run}
use Rattle.dom_set.specs.Tracks.{is_on_one, AreKept}
use Rattle.dom_set.proofs.tracks.push_bits.Given as goal

abbrev pub invariant-loop-bit : goal.invariant-loop-bit
invariant-loop-bit l = record {
  covered : (x : ℕ) → in_run l.run x ≡ true → matches_below l.hole l.bit x ≡ false → is_on_one l.tracks.items x ≡ true;
  kept : AreKept l.initial.tracks.items l.tracks.items;
}
