-- The problem of the fetch of a `do` leaf: new page table entries with which the translation of the pc succeeds.
use Rattle.std.specs.Prelude.{◌≡◌, ℕ, true, List, None}
use Rattle.rv_isa.specs.declared.instruction.Instr.{Instr}
use Rattle.rv_script.specs.declared.place.Place.{Place}
use Rattle.rv_script.specs.declared.place.Place.TheVariants.{Word}
use Rattle.rv_script.specs.Bytes.{word_address}
use Rattle.rv_script.specs.Lists.{HasItem}
use Rattle.rv_script.specs.Script.{Label.FetchRoot, Label.FetchSecond, Script}
use Rattle.rv_script.specs.Folds.{Known, by_known, Answer.Does, Entry}
use Rattle.sv_walk.specs.declared.entry.Kind.TheVariants.{Fetch as ForFetch}
use Rattle.sv_walk.specs.Translation.{Reached, At, translated}
use Rattle.rv_hart.specs.Machine.{fetch_view}
use Rattle.fd_prob.specs.declared.slot.Slot.{Slot}
use Rattle.fd_prob.specs.declared.slot.Slot.TheVariants as slots
use Rattle.rv_script.specs.Logs.{entry_place, entry_label, is_word, answer_told, log_of, labelled, by_answers, enlarged, new_value, started}
use Rattle.leaf_link.specs.Turns.{Turn, is_free_entry, may_start}
use Rattle.leaf_link.specs.Values.{Values, given_by}
use Rattle.leaf_link.specs.Laws.{OneToOne}

abbrev pub fetch_script : Turn → Script Reached
fetch_script t = translated t.fixed.ram (fetch_view t.fixed) ForFetch t.fixed.pc

-- what is asked of the translation of a fetch
pub record MeetsFetch (t : Turn) (log : List Entry) (pa : ℕ) : Type 0 where
  pub may : (i : Instr) (e : Entry) → HasItem log e → t.known (entry_place e) ≡ None → may_start t i (entry_label e) (entry_place e) e.value ≡ true
  pub once : (e f : Entry) → HasItem log e → HasItem log f → t.known (entry_place e) ≡ None → entry_place e ≡ entry_place f → is_word (entry_place e) ≡ true → entry_label e ≡ entry_label f
  pub free : (e : Entry) → HasItem log e → is_free_entry t e ≡ true
  -- where an entry is new, the word at the pc is not known, and is no new entry
  pub fresh : (e : Entry) → HasItem log e → t.known (entry_place e) ≡ None → enlarged t.known (started t.known log) (Word (word_address pa)) ≡ None

pub record IsFetchCandidate (t : Turn) (new : Known) : Type 0 where
  pub log : List Entry
  pub pa : ℕ
  pub plays : answer_told (by_known (enlarged t.known new)) (fetch_script t) ≡ Does log (At pa)
  pub exact : (place : Place) → new place ≡ started t.known log place
  pub meets : MeetsFetch t log pa

-- the values of a fetch: the new entries, and 0
abbrev pub fetch_values : Turn → List Entry → Values
fetch_values t log slots.FirstPte = new_value t.known (labelled log FetchRoot)
fetch_values t log slots.SecondPte = new_value t.known (labelled log FetchSecond)
fetch_values t log _ = 0

abbrev pub fetch_places : Turn → Values → Known
fetch_places t x = started t.known (log_of (answer_told (by_answers t.known (given_by x)) (fetch_script t)))

-- values with which the translation does what is asked
pub record FetchDoes (t : Turn) (x : Values) : Type 0 where
  pub log : List Entry
  pub pa : ℕ
  pub plays : answer_told (by_answers t.known (given_by x)) (fetch_script t) ≡ Does log (At pa)
  pub agree : (e f : Entry) → HasItem log e → HasItem log f → t.known (entry_place e) ≡ None → entry_place e ≡ entry_place f → e.value ≡ f.value
  pub meets : MeetsFetch t log pa
  pub is : (s : Slot) → x s ≡ fetch_values t log s

-- they stand one to one for the fetch candidates
abbrev pub FetchesAreExact : Type 0
FetchesAreExact = (t : Turn) → OneToOne (FetchDoes t) (IsFetchCandidate t) (fetch_places t) (λ new w. fetch_values t w.log)
