use Rattle.std.proofs.Common.{◌≡◌, ℕ, ◌<◌, ◌^◌, Some, None, slice_index_or}
use Rattle.leaf_turn.proofs.known.registers_are_words.Given as goal

abbrev pub invariant-loop-n : goal.invariant-loop-n
invariant-loop-n l = (m v : ℕ) → m < l.n → slice_index_or l.hart.regs m None ≡ Some v → v < 2 ^ 32
