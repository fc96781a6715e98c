-- The notes (System V ABI, Program Loading, Note Section).
use Rattle.std.specs.Prelude.{ℕ, List, [], ◌∷◌, ◌++◌, length, replicate, codes}
use Rattle.std.specs.List.{flat_map}
use Rattle.rv_hart.specs.declared.record.Record.{Record}
use Rattle.tpl_admit.specs.declared.certificate.Cert.{Cert}
use Rattle.tpl_admit.specs.declared.dropped.Dropped.{Dropped}
use Rattle.tpl_ast.specs.declared.template.HartState.{HartState}
use Rattle.byte_format.specs.Numbers.{word, pieces, counted, padding}
use Rattle.elf_headers.specs.declared.elf.TheConstants.{NAME_SIZE, NT_START, NT_TRACES, NT_FINAL, NT_TEMPLATE, NT_REST, VERSION}
use Rattle.elf_image.specs.declared.writing.notes.Note.{Note}
use Rattle.note_items.specs.Spelling.{pair_spelling, state_spelling, trace_spelling, drop_spelling}

-- version, harts
unfoldable pub start_desc : List HartState → List ℕ
start_desc states = word VERSION ++ counted state_spelling states

-- each hart's records
unfoldable pub traces_desc : List (List Record) → List ℕ
traces_desc traces = flat_map trace_spelling traces

-- harts, final values of the words
unfoldable pub final_desc : List HartState → List ℕ → List ℕ
final_desc states last = flat_map state_spelling states ++ counted word last

-- choices, values of names, dropped biases
unfoldable pub rest_desc : List ℕ → List (ℕ × ℕ) → List Dropped → List ℕ
rest_desc choices names dropped = pieces (counted word choices ∷ counted pair_spelling names ∷ counted drop_spelling dropped ∷ [])

-- the name with its zero, padded to a multiple of 4
unfoldable pub note_name : List ℕ
note_name = codes "TGEN" ++ replicate 4 0

-- namesz, descsz, type, name, desc
unfoldable pub note : ℕ → List ℕ → List ℕ
note kind desc = pieces (word NAME_SIZE ∷ word (length desc) ∷ word kind ∷ note_name ∷ desc ∷ padding (length desc) ∷ [])

unfoldable pub notes_spelling : List Note → List ℕ
notes_spelling notes = flat_map (λ n. note n.kind n.desc) notes

-- what the notes tell: the start, the bytes of the records, the end, the template's text, choices, values of names and dropped biases
pub record Notes : Type 0 where
  pub start : List HartState
  pub traces : List ℕ
  pub finals : List HartState
  pub last : List ℕ
  pub text : List ℕ
  pub choices : List ℕ
  pub names : List (ℕ × ℕ)
  pub dropped : List Dropped

abbrev pub list_notes : Notes → List Note
list_notes n =
    record { kind = NT_START; desc = start_desc n.start }
    ∷ record { kind = NT_TRACES; desc = n.traces }
    ∷ record { kind = NT_FINAL; desc = final_desc n.finals n.last }
    ∷ record { kind = NT_TEMPLATE; desc = n.text }
    ∷ record { kind = NT_REST; desc = rest_desc n.choices n.names n.dropped }
    ∷ []

-- what the notes of a certificate tell
abbrev pub notes_of : Cert → Notes
notes_of c = record { start = c.start; traces = traces_desc c.traces; finals = c.finals; last = c.last; text = c.template.text; choices = c.choices; names = c.names; dropped = c.dropped }

abbrev pub notes_in : Cert → List Note
notes_in c = list_notes (notes_of c)
