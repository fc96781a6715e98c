-- The six parts of a file, each in the words of what is written, and the first one that is wrong.
use Rattle.std.specs.Prelude.{◌≡◌, ℕ, ◌+◌, ◌*◌, ◌%◌, ◌^◌, ◌≤◌, ◌⊎◌, List, [], ◌∷◌, ◌++◌, length, map, sum_by}
use Rattle.std.specs.List.{AllByRecursion}
use Rattle.rv_hart.specs.declared.record.Record.{Record}
use Rattle.tpl_ast.specs.declared.template.Region.{Region}
use Rattle.tpl_ast.specs.declared.template.Template.{Template}
use Rattle.tpl_lang.specs.Parsing.{Parses}
use Rattle.tpl_admit.specs.declared.certificate.Cert.{Cert}
use Rattle.tpl_ast.specs.declared.template.HartState.{HartState}
use Rattle.tpl_ast.specs.States.{AreStartWords, IsWord, IsState}
use Rattle.tpl_admit.specs.WellFormed.{IsRecord, AreNamed, AreDropped}
use Rattle.elf_headers.specs.declared.runs.Run.{Run}
use Rattle.elf_headers.specs.declared.reading.Head.{Head}
use Rattle.elf_headers.specs.declared.reading.Table.{Table}
use Rattle.elf_headers.specs.Runs.{address_of, addresses_of, total_words}
use Rattle.elf_headers.specs.Headers.{elf_header, program_headers, headers_end}
use Rattle.elf_image.specs.Notes.{traces_desc, notes_spelling, Notes, list_notes}
use Rattle.elf_image.specs.File.{entry_of, load_spelling}
use Rattle.tpl_ast.specs.Limits.{file_limits}

-- ---- each part, in front of what stands behind it

-- part 1: an ELF header, in a file that is not too long
pub record IsHead (bytes : List ℕ) (h : Head) (rest : List ℕ) : Type 0 where
  pub text : bytes ≡ elf_header h.entry h.phnum ++ rest
  pub size : length bytes ≤ file_limits.size
  pub entry : IsWord h.entry
  pub some : 1 ≤ h.phnum
  pub most : h.phnum ≤ 65000

-- runs ascend from an address on, have a word between them, and end by 2 ^ 32
abbrev pub AreRuns : ℕ → List Run → Type 0
AreRuns from [] = Unit {0}
AreRuns from (r ∷ rs) = (from ≤ r.addr) × (r.addr % 4 ≡ 0) × (1 ≤ r.words) × (r.addr + 4 * r.words ≤ 2 ^ 32) × AreRuns (r.addr + 4 * r.words + 1) rs

-- where the bytes of the runs begin, from an offset on, can be said in a word
abbrev pub AreOffsets : ℕ → List Run → Type 0
AreOffsets offset [] = Unit {0}
AreOffsets offset (r ∷ rs) = IsWord offset × AreOffsets (offset + 4 * r.words) rs

-- part 2: as many program headers as the ELF header says
pub record IsTable (phnum : ℕ) (bytes : List ℕ) (t : Table) (rest : List ℕ) : Type 0 where
  pub text : bytes ≡ program_headers t.notes t.runs ++ rest
  pub count : 1 + length t.runs ≡ phnum
  pub notes : IsWord t.notes
  pub runs : AreRuns 0 t.runs
  pub total : total_words t.runs ≤ file_limits.words
  pub offsets : AreOffsets (headers_end phnum + t.notes) t.runs

-- words as values of names from an index on, by ascending index
abbrev pub AreValues : ℕ → List (ℕ × ℕ) → Type 0
AreValues from [] = Unit {0}
AreValues from (e ∷ es) = (from ≤ e.0) × IsWord e.0 × IsWord e.1 × AreValues (e.0 + 1) es

-- part 3: the notes, but for what the second and the fourth hold
pub record AreNotes (t : Table) (bytes : List ℕ) (n : Notes) (rest : List ℕ) : Type 0 where
  pub text : bytes ≡ notes_spelling (list_notes n) ++ rest
  pub size : length (notes_spelling (list_notes n)) ≡ t.notes
  pub some_harts : 1 ≤ length n.start
  pub harts : length n.start ≤ file_limits.harts
  pub start : AllByRecursion IsState n.start
  pub finals_count : length n.finals ≡ length n.start
  pub finals : AllByRecursion IsState n.finals
  pub last_count : length n.last ≡ total_words t.runs
  pub last : AllByRecursion IsWord n.last
  pub choices_count : length n.choices ≤ file_limits.choices
  pub choices : AllByRecursion IsWord n.choices
  pub names : AreValues 0 n.names
  pub dropped_count : length n.dropped ≤ file_limits.dropped
  pub dropped : AreDropped (length n.start) 0 n.dropped

-- part 4: the records of every hart
pub record AreRecords (n : Notes) (traces : List (List Record)) : Type 0 where
  pub text : n.traces ≡ traces_desc traces
  pub count : length traces ≡ length n.start
  pub records : AllByRecursion (λ t. AllByRecursion IsRecord t) traces
  pub steps : sum_by (λ t. length t) traces ≤ file_limits.records

-- part 5: the template, with as many harts as start, and with the names of the values
pub record IsTemplate (n : Notes) (t : Template) : Type 0 where
  pub parses : Parses n.text t
  pub harts : length t.harts ≡ length n.start
  pub names : AreNamed t.names 0 n.names

-- part 6: the words of the runs, which lie in memory, and the entry
pub record AreLoads (entry : ℕ) (runs : List Run) (start : List HartState) (ram : List Region) (bytes : List ℕ) (words : List (ℕ × ℕ)) : Type 0 where
  pub text : bytes ≡ load_spelling words
  pub places : map address_of words ≡ addresses_of runs
  pub in_ram : AreStartWords ram 0 words
  pub entry_is : entry ≡ entry_of start

-- ---- how far a file is right

pub record UpToHead (bytes : List ℕ) : Type 0 where
  pub head : Head
  pub rest : List ℕ
  pub is : IsHead bytes head rest

pub record UpToTable (bytes : List ℕ) : Type 0 where
  pub one : UpToHead bytes
  pub table : Table
  pub rest : List ℕ
  pub is : IsTable one.head.phnum one.rest table rest

pub record UpToNotes (bytes : List ℕ) : Type 0 where
  pub two : UpToTable bytes
  pub notes : Notes
  pub rest : List ℕ
  pub is : AreNotes two.table two.rest notes rest

pub record UpToRecords (bytes : List ℕ) : Type 0 where
  pub three : UpToNotes bytes
  pub traces : List (List Record)
  pub is : AreRecords three.notes traces

pub record UpToTemplate (bytes : List ℕ) : Type 0 where
  pub four : UpToRecords bytes
  pub template : Template
  pub is : IsTemplate four.three.notes template

-- ---- the whole file

abbrev pub cert_of : Notes → List (List Record) → Template → List (ℕ × ℕ) → Cert
cert_of n traces template words = record { start = n.start; words = words; traces = traces; finals = n.finals; last = n.last; template = template; choices = n.choices; names = n.names; dropped = n.dropped }

-- the words that stand behind the notes
abbrev pub HasLoads : {bytes : List ℕ} → UpToTemplate bytes → List (ℕ × ℕ) → Type 0
HasLoads u words = AreLoads u.four.three.two.one.head.entry u.four.three.two.table.runs u.four.three.notes.start u.template.ram u.four.three.rest words

-- all six parts are right, and tell this certificate
pub record IsFile (bytes : List ℕ) (c : Cert) : Type 0 where
  pub five : UpToTemplate bytes
  pub words : List (ℕ × ℕ)
  pub is : HasLoads five words
  pub same : c ≡ cert_of five.four.three.notes five.four.traces five.template words

abbrev pub LacksHead : List ℕ → Type 0
LacksHead bytes = (h : Head) (rest : List ℕ) → IsHead bytes h rest → ⊥

abbrev pub LacksTable : {bytes : List ℕ} → UpToHead bytes → Type 0
LacksTable u = (t : Table) (rest : List ℕ) → IsTable u.head.phnum u.rest t rest → ⊥

abbrev pub LacksNotes : {bytes : List ℕ} → UpToTable bytes → Type 0
LacksNotes u = (n : Notes) (rest : List ℕ) → AreNotes u.table u.rest n rest → ⊥

abbrev pub LacksRecords : {bytes : List ℕ} → UpToNotes bytes → Type 0
LacksRecords u = (traces : List (List Record)) → AreRecords u.notes traces → ⊥

abbrev pub LacksTemplate : {bytes : List ℕ} → UpToRecords bytes → Type 0
LacksTemplate u = (t : Template) → IsTemplate u.three.notes t → ⊥

abbrev pub LacksLoads : {bytes : List ℕ} → UpToTemplate bytes → Type 0
LacksLoads u = (words : List (ℕ × ℕ)) → HasLoads u words → ⊥

-- the parts before are right, and this one is not
abbrev pub IsFirstWrong : List ℕ → ℕ → Type 0
IsFirstWrong bytes k =
    ((k ≡ 1) × LacksHead bytes)
    ⊎ (((k ≡ 2) × ((u : UpToHead bytes) × LacksTable u))
    ⊎ (((k ≡ 3) × ((u : UpToTable bytes) × LacksNotes u))
    ⊎ (((k ≡ 4) × ((u : UpToNotes bytes) × LacksRecords u))
    ⊎ (((k ≡ 5) × ((u : UpToRecords bytes) × LacksTemplate u))
    ⊎ ((k ≡ 6) × ((u : UpToTemplate bytes) × LacksLoads u))))))
