use Rattle.std.proofs.Common.{◌≡◌, ℕ, ◌≤◌, ◌<◌, slice_index_or, None}
use Rattle.tpl_admit.specs.Starts.{lookup}
use Rattle.replay_check.proofs.places.are_registers_told.Given as goal

abbrev pub invariant-loop-key : goal.invariant-loop-key
invariant-loop-key l = (k : ℕ) → 1 ≤ k → k < l.key → lookup l.told k ≡ slice_index_or l.hart.regs k None
