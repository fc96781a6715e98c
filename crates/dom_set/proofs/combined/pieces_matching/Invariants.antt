use Rattle.std.proofs.Common.{◌≡◌, ℕ, ◌<◌, ◌^◌, take}
use Rattle.dom_set.specs.Elements.{is_matching}
use Rattle.set_pieces.specs.Internal.Pieces.{holds}
use Rattle.dom_set.proofs.combined.pieces_matching.Given as goal

abbrev pub invariant-loop-pattern : goal.invariant-loop-pattern
invariant-loop-pattern l = (x : ℕ) → x < 2 ^ 32 → holds l.out.items x ≡ is_matching (take l.pattern-index l.patterns) x
