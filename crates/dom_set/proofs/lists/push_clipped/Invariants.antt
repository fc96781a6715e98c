use Rattle.std.proofs.Common.{◌≡◌, ℕ, ◌+◌, ◌&&◌, cond, nat_lt, nat_le, drop}
use Rattle.set_pieces.specs.Internal.Pieces.{times}
use Rattle.dom_set.proofs.lists.push_clipped.Given as goal

abbrev pub invariant-loop-p : goal.invariant-loop-p
invariant-loop-p l = (x : ℕ) →
    times l.out.items x + cond (nat_le l.from x && nat_lt x l.end) (times (drop l.p-index l.pieces) x) 0
    ≡ times l.initial.out.items x + cond (nat_le l.from x && nat_lt x l.end) (times l.pieces x) 0
