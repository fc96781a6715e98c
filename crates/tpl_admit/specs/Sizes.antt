-- How much stands in a certificate.
use Rattle.std.specs.Prelude.{ℕ, ◌+◌, ◌*◌, ◌/◌, ◌==◌, if◌then◌else◌, List, [], ◌∷◌, Option, Some, None, length, slice_get, sum_by}
use Rattle.rv_hart.specs.declared.record.Record.{Record}
use Rattle.tpl_admit.specs.declared.certificate.Cert.{Cert}
use Rattle.tpl_ast.specs.declared.template.HartState.{HartState}
use Rattle.tpl_ast.specs.declared.template.NameDecl.{NameDecl}

-- harts with their places
abbrev pub states_size : List HartState → ℕ
states_size [] = 0
states_size (s ∷ ss) = 1 + length s.places + states_size ss

-- steps with their accesses
abbrev pub trace_size : List Record → ℕ
trace_size [] = 0
trace_size (r ∷ rs) = 1 + length r.accesses + trace_size rs

abbrev pub traces_size : List (List Record) → ℕ
traces_size [] = 0
traces_size (rs ∷ traces) = trace_size rs + traces_size traces

-- the name with an index
abbrev pub name_in : Option NameDecl → List ℕ
name_in None = []
name_in (Some d) = d.name

abbrev pub name_of : List NameDecl → ℕ → List ℕ
name_of names index = name_in (slice_get names index)

-- names that have a value, with their letters
abbrev pub names_size : List NameDecl → List (ℕ × ℕ) → ℕ
names_size names [] = 0
names_size names (e ∷ es) = 1 + length (name_of names e.0) + names_size names es

-- harts, places, steps, accesses, words, choices, names and dropped biases
abbrev pub certificate_size : Cert → ℕ
certificate_size c =
    states_size c.start + traces_size c.traces + states_size c.finals + length c.words + (length c.choices + (names_size c.template.names c.names + length c.dropped))

-- ---- the bytes of a certificate's file

-- the runs of words that lie one behind the other, where the next one lies at an address that continues the last run
abbrev pub runs_behind : ℕ → List (ℕ × ℕ) → ℕ
runs_behind next [] = 0
runs_behind next (w ∷ ws) = (if w.0 == next then 0 else 1) + runs_behind (w.0 + 4) ws

abbrev pub run_count : List (ℕ × ℕ) → ℕ
run_count [] = 0
run_count (w ∷ ws) = 1 + runs_behind (w.0 + 4) ws

abbrev pub state_bytes : HartState → ℕ
state_bytes s = 24 + 8 * length s.places

abbrev pub record_bytes : Record → ℕ
record_bytes r = 28 + 12 * length r.accesses

abbrev pub trace_bytes : List Record → ℕ
trace_bytes rs = 4 + sum_by record_bytes rs

-- a note's header and its bytes, with the padding behind them
abbrev pub note_bytes : ℕ → ℕ
note_bytes size = 20 + (size + 3) / 4 * 4

-- choices, names and dropped biases, each behind its count
abbrev pub rest_bytes : Cert → ℕ
rest_bytes c = 12 + 4 * length c.choices + (8 * length c.names + 16 * length c.dropped)

-- the notes: start, traces, final, template, rest
abbrev pub notes_bytes : Cert → ℕ
notes_bytes c =
    note_bytes (8 + sum_by state_bytes c.start) + (note_bytes (sum_by trace_bytes c.traces)
    + (note_bytes (sum_by state_bytes c.finals + (4 + 4 * length c.last)) + (note_bytes (length c.template.text) + note_bytes (rest_bytes c))))

-- the ELF header, the program headers, the notes and the words
abbrev pub file_size : Cert → ℕ
file_size c = 52 + 32 * (1 + run_count c.words) + (notes_bytes c + 4 * length c.words)
