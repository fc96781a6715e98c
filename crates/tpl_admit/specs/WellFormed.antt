-- Which certificates have a file: values that a file can hold, within its limits.
use Rattle.std.specs.Prelude.{◌≡◌, ℕ, ◌+◌, ◌*◌, ◌<◌, ◌≤◌, true, List, [], ◌∷◌, length, sum_by, Option, Some, None, slice_get}
use Rattle.std.specs.List.{AllByRecursion}
use Rattle.rv_csr.specs.Causes.{is_cause}
use Rattle.rv_hart.specs.Effects.{IsAccess}
use Rattle.rv_hart.specs.declared.record.Outcome.{Outcome}
use Rattle.rv_hart.specs.declared.record.Outcome.TheVariants.{Retired, Trap}
use Rattle.rv_hart.specs.declared.record.Record.{Record}
use Rattle.dom_set.specs.Elements.{is_in}
use Rattle.tpl_ast.specs.declared.template.NameDecl.{NameDecl}
use Rattle.tpl_ast.specs.Limits.{FileLimits, file_limits}
use Rattle.tpl_lang.specs.Parsing.{Parses}
use Rattle.tpl_admit.specs.declared.certificate.Cert.{Cert}
use Rattle.tpl_admit.specs.declared.dropped.Dropped.{Dropped}
use Rattle.tpl_ast.specs.States.{AreStartWords, IsState, IsWord}
use Rattle.tpl_admit.specs.Sizes.{file_size}

abbrev pub IsOutcome : Outcome → Type 0
IsOutcome Retired = Unit {0}
IsOutcome (Trap cause value to) = (is_cause cause ≡ true) × IsWord value

-- no register is written, or one of x1 to x31
abbrev pub IsWritten : Option (ℕ × ℕ) → Type 0
IsWritten None = Unit {0}
IsWritten (Some rd) = (1 ≤ rd.0) × (rd.0 < 32) × IsWord rd.1

-- the values of a record that a file within these limits can hold
pub record IsRecordBy (limits : FileLimits) (r : Record) : Type 0 where
  pub pc : IsWord r.pc
  pub word : IsWord r.word
  pub next_pc : IsWord r.next_pc
  pub outcome : IsOutcome r.outcome
  pub rd : IsWritten r.rd
  pub accesses : AllByRecursion IsAccess r.accesses
  pub count : length r.accesses ≤ limits.accesses

abbrev pub IsRecord : Record → Type 0
IsRecord r = IsRecordBy file_limits r

-- the name is one of the template's, and the value is in its domain
abbrev pub IsNamed : Option NameDecl → ℕ → Type 0
IsNamed None value = ⊥
IsNamed (Some d) value = is_in d.set value ≡ true

-- values of names from an index on, by ascending index
abbrev pub AreNamed : List NameDecl → ℕ → List (ℕ × ℕ) → Type 0
AreNamed names from [] = Unit {0}
AreNamed names from (e ∷ es) = (from ≤ e.0) × IsWord e.0 × IsWord e.1 × IsNamed (slice_get names e.0) e.1 × AreNamed names (e.0 + 1) es

-- where an entry stands among all that could be dropped: so many steps a hart and atoms a step
abbrev pub drop_place_by : FileLimits → Dropped → ℕ
drop_place_by limits d = (d.hart * limits.steps + d.step) * limits.atoms + d.atom

abbrev pub drop_place : Dropped → ℕ
drop_place d = drop_place_by file_limits d

-- dropped biases of so many harts from a place on, by ascending hart, step and atom
abbrev pub AreDroppedBy : FileLimits → ℕ → ℕ → List Dropped → Type 0
AreDroppedBy limits harts from [] = Unit {0}
AreDroppedBy limits harts from (d ∷ ds) =
    (d.hart < harts) × (d.step < limits.steps) × (d.atom < limits.atoms) × (from ≤ drop_place_by limits d) × AreDroppedBy limits harts (drop_place_by limits d + 1) ds

abbrev pub AreDropped : ℕ → ℕ → List Dropped → Type 0
AreDropped harts from ds = AreDroppedBy file_limits harts from ds

-- the values that a file can hold, within its limits
pub record IsWellFormedBy (limits : FileLimits) (c : Cert) : Type 0 where
  pub size : file_size c ≤ limits.size
  pub some_harts : 1 ≤ length c.start
  pub harts : length c.start ≤ limits.harts
  pub start : AllByRecursion IsState c.start
  pub finals_count : length c.finals ≡ length c.start
  pub finals : AllByRecursion IsState c.finals
  pub traces_count : length c.traces ≡ length c.start
  pub traces : AllByRecursion (λ t. AllByRecursion (IsRecordBy limits) t) c.traces
  pub steps : sum_by (λ t. length t) c.traces ≤ limits.records
  pub words_count : length c.words ≤ limits.words
  pub words : AreStartWords c.template.ram 0 c.words
  pub last_count : length c.last ≡ length c.words
  pub last : AllByRecursion IsWord c.last
  pub template : Parses c.template.text c.template
  pub template_harts : length c.template.harts ≡ length c.start
  pub choices_count : length c.choices ≤ limits.choices
  pub choices : AllByRecursion IsWord c.choices
  pub names : AreNamed c.template.names 0 c.names
  pub dropped_count : length c.dropped ≤ limits.dropped
  pub dropped : AreDroppedBy limits (length c.start) 0 c.dropped

abbrev pub IsWellFormed : Cert → Type 0
IsWellFormed c = IsWellFormedBy file_limits c
