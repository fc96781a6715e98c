-- What was read of a file, as contracts see it.
use Rattle.std.specs.Prelude.{ℕ, List}
use Rattle.rv_hart.specs.declared.record.Record.{Record}
use Rattle.elf_headers.specs.declared.runs.Run.{Run}
use Rattle.elf_image.specs.declared.reading.notes.NoteDescs.{NoteDescs}
use Rattle.elf_image.specs.declared.reading.Front.{Front}
use Rattle.elf_image.specs.Notes.{Notes}

abbrev pub notes_view : NoteDescs → Notes
notes_view n = record { start = n.start; traces = n.traces.now; finals = n.finals; last = n.last; text = n.text.now; choices = n.choices; names = n.names; dropped = n.dropped }

-- the first four parts, and the bytes behind the notes
pub record FrontParts : Type 0 where
  pub entry : ℕ
  pub runs : List Run
  pub notes : Notes
  pub traces : List (List Record)
  pub rest : List ℕ

abbrev pub front_view : Front → FrontParts
front_view f = record { entry = f.entry; runs = f.runs; notes = notes_view f.notes; traces = f.traces; rest = f.rest.now }
