-- What is tested of values that were read.
use Rattle.std.specs.Prelude.{ℕ, ◌+◌, ◌*◌, ◌%◌, ◌^◌, List, [], ◌∷◌, length, sum_by, Option, Some, None, slice_get, Bool, true, false, ◌&&◌, ◌==◌, nat_lt, nat_le, if◌then◌else◌}
use Rattle.std.specs.List.{list_all}
use Rattle.rv_csr.specs.declared.table.Register.{Register}
use Rattle.rv_csr.specs.declared.table.Register.TheVariants.{Lazy}
use Rattle.rv_csr.specs.Table.{is_legal_at}
use Rattle.rv_script.specs.declared.access.Access.{Access}
use Rattle.dom_set.specs.Elements.{is_in as is_element}
use Rattle.rv_hart.specs.declared.record.Record.{Record}
use Rattle.tpl_ast.specs.declared.template.Region.{Region}
use Rattle.tpl_ast.specs.declared.template.HartState.{HartState}
use Rattle.tpl_ast.specs.declared.template.NameDecl.{NameDecl}
use Rattle.tpl_lang.specs.Parsing.{Said}
use Rattle.tpl_admit.specs.declared.dropped.Dropped.{Dropped}
use Rattle.tpl_ast.specs.States.{is_key, is_legal_place, is_in_ram}
use Rattle.tpl_admit.specs.WellFormed.{drop_place}
use Rattle.elf_headers.specs.declared.runs.Run.{Run}
use Rattle.elf_headers.specs.declared.reading.Head.{Head}
use Rattle.elf_headers.specs.declared.reading.Table.{Table}
use Rattle.elf_headers.specs.Runs.{total_words}
use Rattle.elf_image.specs.Notes.{Notes}
use Rattle.tpl_ast.specs.Limits.{file_limits}

-- one to four harts
abbrev pub are_harts : List HartState → Bool
are_harts states = nat_le 1 (length states) && nat_le (length states) file_limits.harts

-- the index of each name is above those before it
abbrev pub are_values : ℕ → List (ℕ × ℕ) → Bool
are_values low [] = true
are_values low (e ∷ es) = if nat_lt e.0 low then false else are_values (e.0 + 1) es

-- a hart that exists, one of its steps and one of the step's atoms
unfoldable pub is_drop : ℕ → Dropped → Bool
is_drop harts d = nat_lt d.hart harts && (nat_lt d.step file_limits.steps && nat_lt d.atom file_limits.atoms)

-- dropped biases of so many harts, at places that ascend from a number on
abbrev pub are_dropped : ℕ → ℕ → List Dropped → Bool
are_dropped harts low [] = true
are_dropped harts low (d ∷ ds) = if nat_lt (drop_place d) low then false else (if is_drop harts d then are_dropped harts (drop_place d + 1) ds else false)

-- choices, values of names and dropped biases
unfoldable pub is_rest : ℕ → List ℕ × (List (ℕ × ℕ) × List Dropped) → Bool
is_rest harts t = nat_le (length t.0) file_limits.choices && (are_values 0 t.1.0 && (nat_le (length t.1.1) file_limits.dropped && are_dropped harts 0 t.1.1))

unfoldable pub are_traces : List (List Record) → Bool
are_traces traces = nat_le (sum_by (λ t. length t) traces) file_limits.records

-- all words lie in memory
unfoldable pub are_in : List Region → List (ℕ × ℕ) → Bool
are_in ram words = list_all (λ w. is_in_ram ram w.0) words

-- the name is one of the template's, and the value is in its set
abbrev pub is_named : Option NameDecl → ℕ → Bool
is_named None value = false
is_named (Some d) value = is_element d.set value

abbrev pub are_named : List NameDecl → List (ℕ × ℕ) → Bool
are_named names values = list_all (λ e. is_named (slice_get names e.0) e.1) values

-- a text that says this has as many harts as the notes, and the names of their values
unfoldable pub is_fit : Notes → Said → Bool
is_fit n s = length s.harts == length n.start && are_named s.names n.names
