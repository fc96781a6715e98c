use Rattle.std.proofs.Common.{◌≡◌, ◌+◌, ◌*◌, ◌^◌, drop}
use Rattle.set_pieces.specs.Counting.{one, total}
use Rattle.set_pieces.specs.Internal.Pieces.{in_piece, times}
use Rattle.dom_set.proofs.combined.count_shared.Given as goal

abbrev pub invariant-loop-q : goal.invariant-loop-q
invariant-loop-q l =
    l.count + total (λ x. one (in_piece l.p x) * times (drop l.q-index l.others) x) (2 ^ 32)
    ≡ total (λ x. one (in_piece l.p x) * times l.others x) (2 ^ 32)
