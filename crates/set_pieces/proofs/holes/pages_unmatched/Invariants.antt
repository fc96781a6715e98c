use Rattle.std.proofs.Common.{ℕ, ◌&&◌, not, ◌≤◌, ◌<◌, ◌^◌}
use Rattle.set_pieces.specs.Internal.Patterns.{matches}
use Rattle.set_pieces.specs.Internal.Runs.{in_run}
use Rattle.set_pieces.specs.Ends.{HasPage}
use Rattle.set_pieces.proofs.holes.pages_unmatched.Given as goal

abbrev pub invariant-loop-bit : goal.invariant-loop-bit
invariant-loop-bit l = record {
  reached : l.page ≤ l.end;
  most : l.end ≤ 2 ^ 20;
  held : (q : ℕ) → l.page ≤ q → q < l.end → HasPage (λ x. in_run l.run x && not (matches l.hole x)) q;
}
