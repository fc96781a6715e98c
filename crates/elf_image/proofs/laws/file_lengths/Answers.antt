use Rattle.elf_image.proofs.Lengths.{length-file}
use Rattle.elf_image.proofs.laws.file_lengths.Goals as goal

pub returns : goal.returns
returns c = λ x. length-file x
