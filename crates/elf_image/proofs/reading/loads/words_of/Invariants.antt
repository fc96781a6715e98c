use Rattle.std.proofs.Common.{◌≡◌, drop}
use Rattle.byte_format.specs.Internal.Readers.{with_front}
use Rattle.elf_image.specs.Internal.PartReaders.{words_at}
use Rattle.elf_image.proofs.reading.loads.words_of.Given as goal

abbrev pub invariant-loop-run : goal.invariant-loop-run
invariant-loop-run l = with_front l.words (words_at (drop l.run-index l.runs) l.rest) ≡ words_at l.runs l.bytes
