-- The ELF header and the program headers (System V ABI, Object Files, ELF Header; Program Loading, Program Header).
use Rattle.std.specs.Prelude.{ℕ, ◌+◌, ◌-◌, ◌*◌, List, [], ◌∷◌, ◌++◌, length, replicate}
use Rattle.byte_format.specs.Numbers.{half, word, pieces}
use Rattle.elf_headers.specs.declared.elf.TheConstants.{ELFMAG0, ELFMAG1, ELFMAG2, ELFMAG3, ELFCLASS32, ELFDATA2LSB, EV_CURRENT, ELFOSABI_NONE, EI_ABIVERSION, EI_NIDENT, ET_EXEC, EM_RISCV, EHDR_SIZE, PHDR_SIZE, PT_LOAD, PT_NOTE, PF_X, PF_W, PF_R, ALIGN}
use Rattle.elf_headers.specs.declared.runs.Run.{Run}
use Rattle.elf_headers.specs.declared.writing.Segment.{Segment}

unfoldable pub e_ident : List ℕ
e_ident = ELFMAG0 ∷ ELFMAG1 ∷ ELFMAG2 ∷ ELFMAG3 ∷ ELFCLASS32 ∷ ELFDATA2LSB ∷ EV_CURRENT ∷ ELFOSABI_NONE ∷ replicate (EI_NIDENT - EI_ABIVERSION) 0

-- e_type, e_machine, e_version, e_entry
unfoldable pub elf_kind : ℕ → List ℕ
elf_kind entry = pieces (half ET_EXEC ∷ half EM_RISCV ∷ word EV_CURRENT ∷ word entry ∷ [])

-- e_phoff, e_shoff, e_flags, e_ehsize, e_phentsize
unfoldable pub elf_places : List ℕ
elf_places = pieces (word EHDR_SIZE ∷ word 0 ∷ word 0 ∷ half EHDR_SIZE ∷ half PHDR_SIZE ∷ [])

-- e_phnum, e_shentsize, e_shnum, e_shstrndx
unfoldable pub elf_counts : ℕ → List ℕ
elf_counts phnum = pieces (half phnum ∷ half 0 ∷ half 0 ∷ half 0 ∷ [])

-- the ELF header of a file with this entry and so many program headers
unfoldable pub elf_header : ℕ → ℕ → List ℕ
elf_header entry phnum = pieces (e_ident ∷ elf_kind entry ∷ elf_places ∷ elf_counts phnum ∷ [])

-- p_type, p_offset, p_vaddr, p_paddr
unfoldable pub segment_place : ℕ → ℕ → ℕ → List ℕ
segment_place kind offset addr = pieces (word kind ∷ word offset ∷ word addr ∷ word addr ∷ [])

-- p_filesz, p_memsz, p_flags, p_align
unfoldable pub segment_size : ℕ → ℕ → List ℕ
segment_size size flags = pieces (word size ∷ word size ∷ word flags ∷ word ALIGN ∷ [])

unfoldable pub program_header : Segment → List ℕ
program_header s = segment_place s.kind s.offset s.addr ++ segment_size s.size s.flags

abbrev pub note_segment : ℕ → ℕ → Segment
note_segment offset size = record { kind = PT_NOTE; offset = offset; addr = 0; size = size; flags = PF_R }

abbrev pub load_segment : ℕ → Run → Segment
load_segment offset r = record { kind = PT_LOAD; offset = offset; addr = r.addr; size = 4 * r.words; flags = PF_R + PF_W + PF_X }

-- the program headers of runs whose bytes lie one behind the other from an offset on
unfoldable pub load_headers : ℕ → List Run → List ℕ
load_headers offset [] = []
load_headers offset (r ∷ rs) = program_header (load_segment offset r) ++ load_headers (offset + 4 * r.words) rs

-- where the bytes behind so many program headers lie
abbrev pub headers_end : ℕ → ℕ
headers_end phnum = EHDR_SIZE + PHDR_SIZE * phnum

-- the program headers of notes of so many bytes and of these runs, of which the notes come first
unfoldable pub program_headers : ℕ → List Run → List ℕ
program_headers notes runs = let offset = headers_end (1 + length runs) in program_header (note_segment offset notes) ++ load_headers (offset + notes) runs

unfoldable pub all_headers : ℕ → List Run → ℕ → List ℕ
all_headers entry runs notes = elf_header entry (1 + length runs) ++ program_headers notes runs
