use Rattle.std.proofs.Common.{◌≡◌, ◌+◌, ◌*◌, ◌^◌, drop}
use Rattle.set_pieces.specs.Counting.{total}
use Rattle.set_pieces.specs.Internal.Pieces.{times}
use Rattle.dom_set.proofs.combined.count_common.Given as goal

abbrev pub invariant-loop-p : goal.invariant-loop-p
invariant-loop-p l =
    l.count + total (λ x. times (drop l.p-index l.pieces) x * times l.others x) (2 ^ 32)
    ≡ total (λ x. times l.pieces x * times l.others x) (2 ^ 32)
