use Rattle.std.proofs.Common.{◌≡◌, ℕ, ◌^◌, ◌<◌, ◌&&◌, ◌%◌, eqb, All, take}
use Rattle.dom_set.specs.Elements.{is_within}
use Rattle.set_pieces.specs.Internal.Pieces.{holds, IsMultiples}
use Rattle.dom_set.proofs.pairs.aligned.Given as goal

abbrev pub invariant-loop-pair : goal.invariant-loop-pair
invariant-loop-pair l = record {
  multiples : All (IsMultiples l.shift) l.out.items;
  held : (x : ℕ) → x < 2 ^ 32 → holds l.out.items x ≡ (eqb (x % 2 ^ l.shift) 0 && is_within (take l.pair-index l.pairs) x);
}
