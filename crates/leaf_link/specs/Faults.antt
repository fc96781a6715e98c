-- A `fault` leaf: new page table entries, and the vector, with which the fetch fails with a listed cause.
use Rattle.std.specs.Prelude.{◌≡◌, ℕ, Bool, true, List, None}
use Rattle.rv_isa.specs.declared.instruction.Instr.{Instr}
use Rattle.rv_script.specs.declared.place.Place.{Place}
use Rattle.rv_script.specs.Lists.{HasItem}
use Rattle.rv_script.specs.Script.{Label.FetchRoot, Label.FetchSecond, Label.Fetched, Label.FromVector}
use Rattle.rv_script.specs.Folds.{Known, by_known, Answer.Does, Entry}
use Rattle.rv_hart.specs.declared.record.Change.{Change}
use Rattle.rv_hart.specs.Changes.{outcome_of}
use Rattle.rv_hart.specs.Machine.{script}
use Rattle.tpl_admit.specs.Variables.{outcome_in}
use Rattle.fd_prob.specs.declared.slot.Slot.{Slot}
use Rattle.fd_prob.specs.declared.slot.Slot.TheVariants as slots
use Rattle.rv_script.specs.Logs.{entry_place, entry_label, is_word, answer_told, labelled, by_answers, enlarged, new_value, started}
use Rattle.leaf_link.specs.Turns.{Turn, is_free_entry, may_start}
use Rattle.leaf_link.specs.Values.{Values, given_by, new_places}
use Rattle.leaf_link.specs.Laws.{OneToOne}

-- what is asked of a step whose fetch fails; such a step walks, and reads or writes nothing else, so no two of its accesses race
pub record MeetsFault (t : Turn) (causes : ℕ → Bool) (log : List Entry) (change : Change) : Type 0 where
  -- no word is fetched, and the cause is listed
  pub fails : labelled log Fetched ≡ None
  pub cause : causes (outcome_in (outcome_of t.fixed change.control)) ≡ true
  pub may : (i : Instr) (e : Entry) → HasItem log e → t.known (entry_place e) ≡ None → may_start t i (entry_label e) (entry_place e) e.value ≡ true
  pub once : (e f : Entry) → HasItem log e → HasItem log f → t.known (entry_place e) ≡ None → entry_place e ≡ entry_place f → is_word (entry_place e) ≡ true → entry_label e ≡ entry_label f
  pub free : (e : Entry) → HasItem log e → is_free_entry t e ≡ true

pub record IsFaultCandidate (t : Turn) (causes : ℕ → Bool) (new : Known) : Type 0 where
  pub log : List Entry
  pub change : Change
  pub plays : answer_told (by_known (enlarged t.known new)) (script t.fixed) ≡ Does log change
  pub exact : (place : Place) → new place ≡ started t.known log place
  pub meets : MeetsFault t causes log change

-- the values of such a step: the new entries, the vector where it is new, and 0
abbrev pub fault_values : Turn → List Entry → Values
fault_values t log slots.FirstPte = new_value t.known (labelled log FetchRoot)
fault_values t log slots.SecondPte = new_value t.known (labelled log FetchSecond)
fault_values t log slots.Vector = new_value t.known (labelled log FromVector)
fault_values t log _ = 0

-- values with which the step does what is asked
pub record FaultDoes (t : Turn) (causes : ℕ → Bool) (x : Values) : Type 0 where
  pub log : List Entry
  pub change : Change
  pub plays : answer_told (by_answers t.known (given_by x)) (script t.fixed) ≡ Does log change
  pub agree : (e f : Entry) → HasItem log e → HasItem log f → t.known (entry_place e) ≡ None → entry_place e ≡ entry_place f → e.value ≡ f.value
  pub meets : MeetsFault t causes log change
  pub is : (s : Slot) → x s ≡ fault_values t log s

-- they stand one to one for the candidates of a `fault` leaf
abbrev pub FaultsAreExact : Type 0
FaultsAreExact = (t : Turn) (causes : ℕ → Bool) → OneToOne (FaultDoes t causes) (IsFaultCandidate t causes) (new_places t.fixed t.known) (λ new w. fault_values t w.log)
