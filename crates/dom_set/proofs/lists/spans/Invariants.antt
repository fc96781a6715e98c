use Rattle.std.proofs.Common.{◌≡◌, ℕ, true, All, take}
use Rattle.dom_set.specs.Elements.{is_within}
use Rattle.set_pieces.specs.Internal.Pieces.{holds}
use Rattle.set_pieces.specs.Ends.{AreEnds}
use Rattle.dom_set.proofs.lists.spans.Given as goal

abbrev pub invariant-loop-p : goal.invariant-loop-p
invariant-loop-p l = record {
  covered : (x : ℕ) → holds (take l.p-index l.pieces) x ≡ true → is_within l.spans.items x ≡ true;
  ends : All (AreEnds (holds l.pieces)) l.spans.items;
}
