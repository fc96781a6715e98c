-- The six parts of a file, as they are read.
use Rattle.std.specs.Prelude.{ℕ, ◌+◌, ◌-◌, ◌*◌, ◌/◌, ◌%◌, ◌^◌, List, [], ◌∷◌, ◌++◌, length, Option, Some, None, Result, Ok, Err, nat_lt, ◌==◌, if◌then◌else◌}
use Rattle.rv_hart.specs.declared.record.Record.{Record}
use Rattle.tpl_ast.specs.declared.template.Region.{Region}
use Rattle.tpl_ast.specs.declared.template.HartState.{HartState}
use Rattle.tpl_lang.specs.declared.fault.Fault.{Fault}
use Rattle.tpl_lang.specs.Parsing.{Said, parses}
use Rattle.tpl_admit.specs.declared.dropped.Dropped.{Dropped}
use Rattle.byte_format.specs.Numbers.{half, word}
use Rattle.byte_format.specs.Internal.Readers.{◌>>=◌, half_at, word_at, padded_at, both, then_at, behind, ahead, as_at, where_at, under, times, counted_at, chain_at, whole, within}
use Rattle.elf_headers.specs.declared.elf.TheConstants.{EV_CURRENT, ET_EXEC, EM_RISCV, EHDR_SIZE, PHDR_SIZE, PT_LOAD, PT_NOTE, PF_X, PF_W, PF_R, ALIGN, NAME_SIZE, NT_START, NT_TRACES, NT_FINAL, NT_TEMPLATE, NT_REST, VERSION}
use Rattle.elf_headers.specs.declared.runs.Run.{Run}
use Rattle.elf_headers.specs.declared.reading.Head.{Head}
use Rattle.elf_headers.specs.declared.reading.Table.{Table}
use Rattle.elf_headers.specs.Headers.{e_ident, headers_end}
use Rattle.elf_image.specs.Notes.{note_name, Notes}
use Rattle.elf_image.specs.File.{entry_of}
use Rattle.elf_headers.specs.Internal.Checks.{is_head, is_table}
use Rattle.elf_image.specs.Internal.Checks.{are_harts, is_rest, are_traces, are_in, is_fit}
use Rattle.note_items.specs.Internal.Readers.{pair_at, state_at, trace_at, drop_at}

-- ---- part 3

abbrev pub desc_of : ℕ × List ℕ → Option (List ℕ)
desc_of p = Some p.1

unfoldable pub note_at : ℕ → List ℕ → Option (List ℕ × List ℕ)
note_at kind = as_at desc_of (behind (word NAME_SIZE) (then_at word_at (λ size. behind (word kind) (behind note_name (padded_at size)))))

-- a note whose desc is this piece and no more
abbrev pub told_at : {A : Type 0} → ℕ → (List ℕ → Option (A × List ℕ)) → List ℕ → Option (A × List ℕ)
told_at kind piece = as_at (whole piece) (note_at kind)

unfoldable pub start_at : List ℕ → Option (List HartState × List ℕ)
start_at = where_at are_harts (behind (word VERSION) (counted_at state_at))

unfoldable pub final_at : ℕ → ℕ → List ℕ → Option ((List HartState × List ℕ) × List ℕ)
final_at harts total = where_at (λ p. length p.1 == total) (both (times state_at harts) (counted_at word_at))

-- choices, values of names and dropped biases of so many harts
unfoldable pub rest_at : ℕ → List ℕ → Option ((List ℕ × (List (ℕ × ℕ) × List Dropped)) × List ℕ)
rest_at harts = where_at (is_rest harts) (both (counted_at word_at) (both (counted_at pair_at) (counted_at drop_at)))

abbrev pub notes_from : List HartState × (List ℕ × ((List HartState × List ℕ) × (List ℕ × (List ℕ × (List (ℕ × ℕ) × List Dropped))))) → Option Notes
notes_from t = Some (record { start = t.0; traces = t.1.0; finals = t.1.1.0.0; last = t.1.1.0.1; text = t.1.1.1.0; choices = t.1.1.1.1.0; names = t.1.1.1.1.1.0; dropped = t.1.1.1.1.1.1 })

unfoldable pub notes_at : ℕ → List ℕ → Option (Notes × List ℕ)
notes_at total = as_at notes_from (then_at (told_at NT_START start_at) (λ start. both (note_at NT_TRACES) (both (told_at NT_FINAL (final_at (length start) total)) (both (note_at NT_TEMPLATE) (told_at NT_REST (rest_at (length start)))))))

unfoldable pub segment_notes_at : ℕ → ℕ → List ℕ → Option (Notes × List ℕ)
segment_notes_at size total = within size (notes_at total)

-- ---- part 4

unfoldable pub traces_at : ℕ → List ℕ → Option (List (List Record) × List ℕ)
traces_at harts = where_at are_traces (times trace_at harts)

-- ---- part 5

abbrev pub said_in : Result Said Fault → Option Said
said_in (Ok s) = Some s
said_in (Err f) = None

-- what the text says, where it fits the notes
unfoldable pub template_at : Notes → Option Said
template_at n = said_in (parses n.text) >>= λ s. if is_fit n s then Some s else None

-- ---- part 6

-- a word with its address
unfoldable pub placed_at : ℕ → List ℕ → Option ((ℕ × ℕ) × List ℕ)
placed_at addr = as_at (λ value. Some (addr, value)) word_at

abbrev pub next_address : ℕ → ℕ × ℕ → ℕ
next_address addr word = addr + 4

-- the words of the runs
unfoldable pub words_at : List Run → List ℕ → Option (List (ℕ × ℕ) × List ℕ)
words_at [] bytes = Some ([], bytes)
words_at (r ∷ rs) bytes = chain_at next_address placed_at r.words r.addr bytes >>= λ ws. words_at rs ws.1 >>= λ more. Some (ws.0 ++ more.0, more.1)

unfoldable pub image_at : List Region → List Run → List ℕ → Option (List (ℕ × ℕ) × List ℕ)
image_at ram runs = where_at (are_in ram) (words_at runs)

unfoldable pub loaded_at : ℕ → List Run → List HartState → List Region → List ℕ → Option (List (ℕ × ℕ))
loaded_at entry runs start ram bytes = if entry == entry_of start then whole (image_at ram runs) bytes else None
