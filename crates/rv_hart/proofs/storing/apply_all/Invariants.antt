use Rattle.std.proofs.Common.{◌≡◌, ℕ, drop}
use Rattle.rv_hart.specs.Effects.{seen_after}
use Rattle.rv_hart.proofs.storing.apply_all.Given as goal

abbrev pub invariant-loop-x : goal.invariant-loop-x
invariant-loop-x g l = (n : ℕ) → seen_after (drop l.x-index l.accesses) (g.M.Words.at l.m) n ≡ seen_after l.accesses (g.M.Words.at l.fn.m) n
