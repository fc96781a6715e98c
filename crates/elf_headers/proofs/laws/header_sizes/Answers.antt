use Rattle.elf_headers.proofs.Sizes.{length-elf_header, length-program_header}
use Rattle.elf_headers.proofs.laws.header_sizes.Goals as goal

pub returns-clause-header : goal.returns-clause-header
returns-clause-header c = λ entry phnum. length-elf_header entry phnum

pub returns-clause-segment : goal.returns-clause-segment
returns-clause-segment c = λ s. length-program_header s
