-- Reading a file part by part.
use Rattle.std.specs.Prelude.{◌≡◌, ℕ, List, length, Option, Some, None, Result, Ok, Err}
use Rattle.byte_format.specs.declared.error.PieceError.{PieceError}
use Rattle.byte_format.specs.declared.error.PieceError.TheVariants as pieces
use Rattle.byte_format.specs.Internal.Readers.{whole}
use Rattle.tpl_parse.specs.declared.error.ParseError.{ParseError}
use Rattle.tpl_parse.specs.declared.error.ParseError.TheVariants.{Fault}
use Rattle.tpl_parse.specs.declared.error.ParseError.TheVariants as templates
use Rattle.tpl_admit.specs.declared.certificate.Cert.{Cert}
use Rattle.elf_image.specs.declared.error.ReadError.{ReadError}
use Rattle.elf_image.specs.declared.error.ReadError.TheVariants.{Malformed, OutOfMemory}
use Rattle.elf_headers.specs.declared.reading.Head.{Head}
use Rattle.elf_headers.specs.declared.reading.Table.{Table}
use Rattle.elf_headers.specs.Runs.{total_words}
use Rattle.elf_image.specs.Notes.{Notes}
use Rattle.elf_image.specs.Parts.{IsFile, IsFirstWrong}
use Rattle.elf_headers.specs.Internal.Readers.{sized_header_at, table_at}
use Rattle.elf_image.specs.Internal.PartReaders.{segment_notes_at, traces_at}
use Rattle.elf_image.specs.Internal.Views.{FrontParts}

-- a part that is wrong where there is nothing
abbrev pub part : {A : Type 0} → ℕ → Option A → Result A ℕ
part k None = Err k
part k (Some x) = Ok x

infixl 10 ◌>>-◌
abbrev pub ◌>>-◌ : {A B : Type 0} → Result A ℕ → (A → Result B ℕ) → Result B ℕ
(Ok x) >>- f = f x
(Err k) >>- f = Err k

-- a result, seen by view, is what is read, unless memory ran out
abbrev pub GivesPart : {X Y : Type 0} → (X → Y) → Result X ReadError → Result Y ℕ → Type 0
GivesPart view (Ok x) read = read ≡ Ok (view x)
GivesPart view (Err (Malformed k)) read = read ≡ Err k
GivesPart view (Err OutOfMemory) read = Unit {0}

-- the error of a part whose piece isn't there
abbrev pub at_part : ℕ → PieceError → ReadError
at_part k pieces.Malformed = Malformed k
at_part k pieces.OutOfMemory = OutOfMemory

-- the error of a text that is no template
abbrev pub no_template : ParseError → PieceError
no_template (Fault fault) = pieces.Malformed
no_template templates.OutOfMemory = pieces.OutOfMemory

abbrev pub after_notes : Head → Table → Notes × List ℕ → Result FrontParts ℕ
after_notes h t n = part 4 (whole (traces_at (length n.0.start)) n.0.traces) >>- λ traces. Ok (record { entry = h.entry; runs = t.runs; notes = n.0; traces = traces; rest = n.1 })

abbrev pub after_table : Head → Table × List ℕ → Result FrontParts ℕ
after_table h t = part 3 (segment_notes_at t.0.notes (total_words t.0.runs) t.1) >>- after_notes h t.0

abbrev pub after_head : Head × List ℕ → Result FrontParts ℕ
after_head h = part 2 (table_at h.0.phnum h.1) >>- after_table h.0

-- the first four parts
unfoldable pub front_at : List ℕ → Result FrontParts ℕ
front_at bytes = part 1 (sized_header_at bytes) >>- after_head

-- what a whole file gives
abbrev pub IsRead : List ℕ → Result Cert ReadError → Type 0
IsRead bytes (Ok c) = IsFile bytes c
IsRead bytes (Err (Malformed k)) = IsFirstWrong bytes k
IsRead bytes (Err OutOfMemory) = Unit {0}
