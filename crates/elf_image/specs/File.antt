-- The file of a certificate.
use Rattle.std.specs.Prelude.{ℕ, List, [], ◌∷◌, length, map}
use Rattle.std.specs.List.{flat_map}
use Rattle.tpl_admit.specs.declared.certificate.Cert.{Cert}
use Rattle.tpl_ast.specs.declared.template.HartState.{HartState}
use Rattle.byte_format.specs.Numbers.{word, pieces}
use Rattle.elf_headers.specs.declared.runs.Run.{Run}
use Rattle.elf_headers.specs.Runs.{address_of, runs_of}
use Rattle.elf_headers.specs.Headers.{all_headers}
use Rattle.elf_image.specs.Notes.{notes_in, notes_spelling}

-- where hart 0 starts
abbrev pub entry_of : List HartState → ℕ
entry_of [] = 0
entry_of (s ∷ states) = s.pc

-- the longest runs of the words that are given a value
abbrev pub runs_in : Cert → List Run
runs_in c = runs_of (map address_of c.words)

-- the values of the words
unfoldable pub load_spelling : List (ℕ × ℕ) → List ℕ
load_spelling words = flat_map (λ w. word w.1) words

-- the headers, the notes and the words
unfoldable pub file_bytes : Cert → List ℕ
file_bytes c = pieces (
    all_headers (entry_of c.start) (runs_in c) (length (notes_spelling (notes_in c)))
    ∷ notes_spelling (notes_in c)
    ∷ load_spelling c.words
    ∷ [])
