use Rattle.std.proofs.Common.{◌≡◌, ℕ, ◌+◌, ◌<◌, ◌≤◌, ◌||◌, length, get_or, drop}
use Rattle.set_pieces.specs.declared.piece.Piece.{Piece}
use Rattle.set_pieces.specs.Counting.{one}
use Rattle.set_pieces.specs.Internal.Pieces.{in_piece, times, holds, IsMultiples}
use Rattle.dom_set.proofs.pairs.merged_from.Given as goal

abbrev pub invariant-loop-p : goal.invariant-loop-p
invariant-loop-p l = record {
  multiples : IsMultiples l.shift l.open;
  ordered : (k : ℕ) (d : Piece) → l.p-index ≤ k → k < length l.rest → l.open.run.low ≤ (get_or l.rest k d).run.low;
  held : (x : ℕ) → times l.out.items x + one (in_piece l.open x || holds (drop l.p-index l.rest) x)
      ≡ one (in_piece l.fn.first x || holds l.rest x);
}
