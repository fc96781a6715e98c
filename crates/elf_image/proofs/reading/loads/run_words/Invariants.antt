use Rattle.std.proofs.Common.{◌≡◌, ◌-◌, ◌+◌, ◌*◌}
use Rattle.byte_format.specs.Internal.Readers.{chain_at, with_front}
use Rattle.elf_image.specs.Internal.PartReaders.{next_address, placed_at}
use Rattle.elf_image.proofs.reading.loads.run_words.Given as goal

abbrev pub invariant-loop-i : goal.invariant-loop-i
invariant-loop-i l = with_front l.words (chain_at next_address placed_at (l.count - l.i) (l.start + 4 * l.i) l.rest) ≡ with_front l.fn.words (chain_at next_address placed_at l.count l.start l.bytes)
