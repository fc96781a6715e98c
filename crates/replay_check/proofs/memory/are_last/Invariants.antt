use Rattle.std.proofs.Common.{◌≡◌, ℕ, ◌/◌, ◌<◌, length, slice_index, slice_index_or}
use Rattle.rv_mem.specs.declared.words.Seen.TheVariants.{Known}
use Rattle.rv_mem.specs.Part.{part_at}
use Rattle.replay_check.proofs.memory.are_last.Given as goal

abbrev pub invariant-loop-word : goal.invariant-loop-word
invariant-loop-word l = (k : ℕ) → k < length l.yielded → part_at l.memory ((slice_index_or l.words k (0, 0)).0 / 4) ≡ Known (slice_index l.last k)
