-- The order of tries.
use Rattle.std.specs.Prelude.{◌≡◌, ℕ, ◌+◌, ◌-◌, ◌<◌, ◌≤◌}

-- which of n is tried at a try from 0 on, cyclically from the picked one
pub record IsCyclic (picked tried n way : ℕ) : Type 0 where
  pub straight : tried < n - picked → way ≡ picked + tried
  pub wrapped : n - picked ≤ tried → way ≡ tried - (n - picked)
