-- How many bytes the headers have.
use Rattle.std.proofs.Common.{◌≡◌, ℕ, length, refl}
use Rattle.byte_format.specs.Numbers.{half, word}
use Rattle.elf_headers.specs.declared.writing.Segment.{Segment}
use Rattle.elf_headers.specs.Headers.{e_ident, elf_kind, elf_places, elf_counts, elf_header, segment_place, segment_size, program_header}

pub length-program_header : (s : Segment) → length (program_header s) ≡ 32
unfolding program_header segment_place segment_size word
length-program_header s = refl

pub length-elf_header : (entry phnum : ℕ) → length (elf_header entry phnum) ≡ 52
unfolding elf_header e_ident elf_kind elf_places elf_counts half word
length-elf_header entry phnum = refl
