use Rattle.std.proofs.Common.{ℕ, ◌<◌, ◌≤◌, ◌^◌}
use Rattle.set_pieces.specs.Internal.Pieces.{holds}
use Rattle.set_pieces.specs.Ends.{HasPage}
use Rattle.dom_set.proofs.lists.pages_end.Given as goal

abbrev pub invariant-loop-p : goal.invariant-loop-p
invariant-loop-p l = record {
  reached : l.page ≤ l.end;
  most : l.end ≤ 2 ^ 20;
  held : (q : ℕ) → l.page ≤ q → q < l.end → HasPage (holds l.pieces) q;
}
