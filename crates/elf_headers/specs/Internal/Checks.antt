-- What is tested of headers that were read.
use Rattle.std.specs.Prelude.{ℕ, ◌+◌, ◌*◌, ◌%◌, ◌^◌, List, [], ◌∷◌, Bool, true, false, ◌==◌, nat_lt, nat_le, if◌then◌else◌}
use Rattle.elf_headers.specs.declared.runs.Run.{Run}
use Rattle.elf_headers.specs.declared.reading.Head.{Head}
use Rattle.elf_headers.specs.declared.reading.Table.{Table}
use Rattle.elf_headers.specs.Runs.{total_words}
use Rattle.tpl_ast.specs.Limits.{file_limits}

abbrev pub is_head : Head → Bool
is_head h = if nat_lt h.phnum 1 then false else nat_le h.phnum 65000

-- runs that ascend from an address on, with a word between them, and end by 2 ^ 32
abbrev pub are_runs : ℕ → List Run → Bool
are_runs low [] = true
are_runs low (r ∷ rs) =
    if nat_lt r.addr low then false
    else (if r.addr % 4 == 0 then (if nat_lt 0 r.words then (if nat_le (r.addr + 4 * r.words) (2 ^ 32) then are_runs (r.addr + 4 * r.words + 1) rs else false) else false) else false)

unfoldable pub is_table : Table → Bool
is_table t = if are_runs 0 t.runs then nat_le (total_words t.runs) file_limits.words else false
