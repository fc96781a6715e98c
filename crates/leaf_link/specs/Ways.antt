-- What is owed for an operation: that its ways are what the rest of its script does.
use Rattle.std.specs.Prelude.{◌≡◌, ℕ, ◌%◌, ◌^◌, ◌<◌, Bool, true, false, List, ◌∷◌, ◌++◌, Option, Some, None}
use Rattle.rv_isa.specs.declared.operation.Op.{Op}
use Rattle.rv_isa.specs.Encoding.{Fits, word_of}
use Rattle.rv_isa.specs.Fields.{reads_rs2, has_address}
use Rattle.rv_isa.specs.Numbers.{op_number}
use Rattle.rv_isa.specs.Table.{row_of}
use Rattle.rv_script.specs.declared.access.Access.{Access}
use Rattle.rv_script.specs.declared.place.Place.{Place}
use Rattle.rv_script.specs.declared.place.Place.TheVariants.{Word}
use Rattle.rv_script.specs.Lists.{HasItem}
use Rattle.rv_script.specs.Script.{Label.FromCsr, Label.DataRoot, Label.DataSecond, Label.DataWord, Label.FromVector}
use Rattle.rv_script.specs.Folds.{Known, by_known, Answer.Does, Entry}
use Rattle.foot_map.specs.Races.{breaks, Meet}
use Rattle.sv_walk.specs.declared.entry.Kind.TheVariants.{Fetch as ForFetch}
use Rattle.sv_walk.specs.Translation.{At, translated}
use Rattle.rv_hart.specs.declared.record.Change.{Change}
use Rattle.rv_hart.specs.Changes.{outcome_of}
use Rattle.rv_hart.specs.Machine.{fetch_view}
use Rattle.tpl_ast.specs.declared.template.Atom.{Atom}
use Rattle.tpl_ast.specs.declared.template.Var.TheVariants as vars
use Rattle.tpl_admit.specs.Variables.{data_address, outcome_in}
use Rattle.fd_prob.specs.declared.slot.Slot.{Slot}
use Rattle.fd_prob.specs.declared.slot.Slot.TheVariants as slots
use Rattle.rv_script.specs.Logs.{entry_place, entry_label, answer_told, labelled, by_answers, new_value, Coherent}
use Rattle.leaf_link.specs.Turns.{Turn, may_start, is_free_entry}
use Rattle.leaf_link.specs.Values.{Values, instr_in, address_if, given_by, old_csr}
use Rattle.leaf_link.specs.Candidates.{accesses_in}
use Rattle.leaf_link.specs.Cases.{Shape, Way, uses_address, uses_rs1, uses_rs2, all_tests, fetch_entry, base_domain}
use Rattle.rv_hart.specs.Rests.{asks_rs1, rest}

-- the translation of the fetch is settled: it asks for known entries alone, and leads to a physical address; the pc is a multiple of 4
pub record IsFetched (t : Turn) (walk : List Entry) (pa : ℕ) : Type 0 where
  pub translates : answer_told (by_known t.known) (translated t.fixed.ram (fetch_view t.fixed) ForFetch t.fixed.pc) ≡ Does walk (At pa)
  pub aligned : t.fixed.pc % 4 ≡ 0

-- what is known is words
abbrev pub AreWords : Known → Type 0
AreWords known = (place : Place) (v : ℕ) → known place ≡ Some v → v < 2 ^ 32

-- the values are of an operation, with fields that fit
pub record IsOf (op : Op) (x : Values) : Type 0 where
  pub op_is : (instr_in x).op ≡ op
  pub fits : Fits (instr_in x)
  pub small : x slots.Ea < 2 ^ 32

-- the address is the one that they give
abbrev pub HasAddress : Op → Values → Type 0
HasAddress op x = x slots.Ea ≡ address_if (has_address (row_of op)) (x slots.A) (x slots.Imm)

-- the data access, if one is made, is where the atoms want it
abbrev pub IsReach : (ℕ → Bool) → Bool → Option ℕ → Type 0
IsReach wanted true (Some pa) = wanted pa ≡ true
IsReach wanted false None = Unit {0}
IsReach wanted true None = ⊥
IsReach wanted false (Some pa) = ⊥

-- the accesses of a step: the walk of the fetch, the fetch, and those of the rest
abbrev pub step_accesses : Turn → List Entry → ℕ → ℕ → List Entry → List Access
step_accesses t walk pa w log = accesses_in (walk ++ fetch_entry t pa w ∷ log)

-- the rest, played by the answers of the values, is done with an outcome; what it starts may be started, and it races with nothing; and the
-- values of its variables are those of its log
pub record DoesRest (t : Turn) (walk : List Entry) (pa : ℕ) (leaf : List Atom) (s : Shape) (x : Values) : Type 0 where
  pub log : List Entry
  pub change : Change
  pub plays : answer_told (by_answers t.known (given_by x)) (rest (row_of s.op) t.fixed (word_of (instr_in x)) (instr_in x) (x slots.A) (x slots.B)) ≡ Does log change
  pub word : change.word ≡ word_of (instr_in x)
  pub outcome : outcome_in (outcome_of t.fixed change.control) ≡ s.outcome
  pub reach : IsReach (all_tests t leaf vars.Pa) s.reaches (data_address (accesses_in log))
  pub may : (e : Entry) → HasItem log e → t.known (entry_place e) ≡ None → may_start t (instr_in x) (entry_label e) (entry_place e) e.value ≡ true
  pub free : (e : Entry) → HasItem log e → is_free_entry t e ≡ true
  pub coherent : Coherent t.known log
  -- the fetched word, if it is new, has no other role
  pub one_role : (e : Entry) → HasItem log e → t.known (Word pa) ≡ None → Word pa ≡ entry_place e → ⊥
  pub apart : (y z : Access) → HasItem (step_accesses t walk pa (word_of (instr_in x)) log) y → HasItem (step_accesses t walk pa (word_of (instr_in x)) log) z → Meet y z → breaks true y.role z.role ≡ false
  pub first : x slots.FirstPte ≡ new_value t.known (labelled log DataRoot)
  pub second : x slots.SecondPte ≡ new_value t.known (labelled log DataSecond)
  pub data_word : x slots.DataWord ≡ new_value t.known (labelled log DataWord)
  pub old : x slots.OldCsr ≡ old_csr t.fixed (instr_in x) (labelled log FromCsr)
  pub vector : x slots.Vector ≡ new_value t.known (labelled log FromVector)

-- the registers that are asked for are those that the step uses
pub record AsksUsed (t : Turn) (s : Shape) (x : Values) : Type 0 where
  pub first : asks_rs1 (row_of s.op) t.fixed (instr_in x) ≡ uses_rs1 s
  pub second : reads_rs2 (row_of s.op) ≡ uses_rs2 s

pub record FitsWay (way : Way) (x : Values) : Type 0 where
  pub each : (s : Slot) → way.also s (x s) ≡ true
  pub holds : way.holds x ≡ true

abbrev pub shape_with : Op → ℕ → Bool → Shape
shape_with op outcome reaches = record { op = op; outcome = outcome; reaches = reaches }

-- one of the ways fits, with this outcome
pub record HasWay (op : Op) (ways : List Way) (x : Values) (outcome : ℕ) (reaches : Bool) : Type 0 where
  pub way : Way
  pub is : HasItem ways way
  pub fits : FitsWay way x
  pub outcome_is : way.outcome ≡ outcome
  pub reaches_is : way.reaches ≡ reaches

-- where it uses an address, the atoms let it be the virtual one
abbrev pub IsAddressed : Turn → List Atom → Shape → Values → Type 0
IsAddressed t leaf s x = uses_address s ≡ true → all_tests t leaf vars.Ea (x slots.Ea) ≡ true

-- the ways are what the rest of an operation does, where the atoms let its address be the virtual one
pub record IsWays (t : Turn) (walk : List Entry) (pa : ℕ) (leaf : List Atom) (op : Op) (ways : List Way) : Type 0 where
  pub does : (x : Values) → IsOf op x → HasAddress op x → (way : Way) → HasItem ways way → FitsWay way x → DoesRest t walk pa leaf (shape_with op way.outcome way.reaches) x
  pub fits : (x : Values) → IsOf op x → HasAddress op x → (outcome : ℕ) (reaches : Bool) → DoesRest t walk pa leaf (shape_with op outcome reaches) x → IsAddressed t leaf (shape_with op outcome reaches) x → HasWay op ways x outcome reaches
  pub asks : (x : Values) → IsOf op x → (way : Way) → HasItem ways way → FitsWay way x → AsksUsed t (shape_with op way.outcome way.reaches) x

-- values in the domains of an operation are of that operation, with fields that fit
abbrev pub DomainsAreOfOperations : Type 0
DomainsAreOfOperations = (t : Turn) (pa : ℕ) (leaf : List Atom) (s : Shape) (x : Values) → x slots.Op ≡ op_number s.op → ((slot : Slot) → base_domain t pa leaf s slot (x slot) ≡ true) → IsOf s.op x
