use Rattle.std.proofs.Common.{◌≡◌, ℕ, true, take}
use Rattle.set_pieces.specs.Internal.Pieces.{holds}
use Rattle.dom_set.specs.Tracks.{is_on_one}
use Rattle.dom_set.proofs.tracks.tracks.Given as goal

abbrev pub invariant-loop-p : goal.invariant-loop-p
invariant-loop-p l = (x : ℕ) → holds (take l.p-index l.pieces) x ≡ true → is_on_one l.tracks.items x ≡ true
