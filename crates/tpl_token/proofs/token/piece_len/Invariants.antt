use Rattle.std.proofs.Common.{◌≡◌, ◌+◌, ◌-◌, ◌<◌, ◌≤◌, drop, get_or, length}
use Rattle.tpl_token.specs.Internal.Pieces.{joined, piece_len}
use Rattle.tpl_token.proofs.token.piece_len.Given as goal

abbrev pub invariant-loop-n : goal.invariant-loop-n
invariant-loop-n l = record {
  some : 0 < l.n;
  within : l.n ≤ length l.bytes;
  rest : l.n + joined (get_or l.bytes (l.n - 1) 0) (drop l.n l.bytes) ≡ piece_len l.bytes;
}

abbrev pub decreases-loop-n : goal.decreases-loop-n
decreases-loop-n l = length l.bytes - l.n
