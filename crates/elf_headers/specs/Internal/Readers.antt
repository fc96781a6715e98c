-- The ELF header and the program headers, as they are read.
use Rattle.std.specs.Prelude.{ℕ, ◌+◌, ◌-◌, ◌*◌, ◌/◌, ◌%◌, ◌^◌, List, length, Option, Some, None, nat_lt, ◌==◌, if◌then◌else◌}
use Rattle.byte_format.specs.Numbers.{half, word}
use Rattle.byte_format.specs.Internal.Readers.{half_at, word_at, both, then_at, behind, ahead, as_at, where_at, under, chain_at}
use Rattle.elf_headers.specs.declared.elf.TheConstants.{EV_CURRENT, ET_EXEC, EM_RISCV, EHDR_SIZE, PHDR_SIZE, PT_LOAD, PT_NOTE, PF_X, PF_W, PF_R, ALIGN}
use Rattle.elf_headers.specs.declared.runs.Run.{Run}
use Rattle.elf_headers.specs.declared.reading.Head.{Head}
use Rattle.elf_headers.specs.declared.reading.Table.{Table}
use Rattle.elf_headers.specs.Headers.{e_ident, headers_end}
use Rattle.elf_headers.specs.Internal.Checks.{is_head, is_table}
use Rattle.tpl_ast.specs.Limits.{file_limits}

-- ---- the ELF header

unfoldable pub kind_at : List ℕ → Option (ℕ × List ℕ)
kind_at = behind (half ET_EXEC) (behind (half EM_RISCV) (behind (word EV_CURRENT) word_at))

unfoldable pub counts_at : List ℕ → Option (ℕ × List ℕ)
counts_at = ahead (ahead (ahead half_at (λ n. half 0)) (λ n. half 0)) (λ n. half 0)

unfoldable pub places_at : List ℕ → Option (ℕ × List ℕ)
places_at = behind (word EHDR_SIZE) (behind (word 0) (behind (word 0) (behind (half EHDR_SIZE) (behind (half PHDR_SIZE) counts_at))))

abbrev pub head_of : ℕ × ℕ → Option Head
head_of p = Some (record { entry = p.0; phnum = p.1 })

unfoldable pub header_at : List ℕ → Option (Head × List ℕ)
header_at = where_at is_head (as_at head_of (behind e_ident (both kind_at places_at)))

unfoldable pub sized_header_at : List ℕ → Option (Head × List ℕ)
sized_header_at bytes = if nat_lt file_limits.size (length bytes) then None else header_at bytes

-- ---- the program headers

-- a number that stands twice
unfoldable pub twice_at : List ℕ → Option (ℕ × List ℕ)
twice_at = ahead word_at (λ n. word n)

-- a program header, of which the address and the size are read
unfoldable pub segment_at : ℕ → ℕ → ℕ → List ℕ → Option ((ℕ × ℕ) × List ℕ)
segment_at kind offset flags = both (behind (word kind) (behind (word offset) twice_at)) (ahead (ahead twice_at (λ n. word flags)) (λ n. word ALIGN))

abbrev pub size_of : ℕ × ℕ → Option ℕ
size_of p = if p.0 == 0 then Some p.1 else None

unfoldable pub note_segment_at : ℕ → List ℕ → Option (ℕ × List ℕ)
note_segment_at offset = as_at size_of (segment_at PT_NOTE offset PF_R)

abbrev pub run_of : ℕ × ℕ → Option Run
run_of p = if p.1 % 4 == 0 then Some (record { addr = p.0; words = p.1 / 4 }) else None

unfoldable pub load_at : ℕ → List ℕ → Option (Run × List ℕ)
load_at offset = under (nat_lt offset (2 ^ 32)) (as_at run_of (segment_at PT_LOAD offset (PF_R + PF_W + PF_X)))

-- where the bytes behind those of a run lie
abbrev pub next_offset : ℕ → Run → ℕ
next_offset offset r = offset + 4 * r.words

abbrev pub table_of : ℕ × List Run → Option Table
table_of p = Some (record { notes = p.0; runs = p.1 })

unfoldable pub table_at : ℕ → List ℕ → Option (Table × List ℕ)
table_at phnum = where_at is_table (as_at table_of (then_at (note_segment_at (headers_end phnum)) (λ size. chain_at next_offset load_at (phnum - 1) (headers_end phnum + size))))
