-- The cases of the fetch problem, from the rows of its translation.
use Rattle.std.specs.Prelude.{◌≡◌, ℕ, Bool, true, not, ◌&&◌, ◌||◌, nat_eq, List, [], ◌∷◌, None}
use Rattle.std.specs.List.{list_all}
use Rattle.rv_isa.specs.declared.instruction.Instr.{Instr}
use Rattle.rv_script.specs.declared.place.Place.TheVariants.{Word}
use Rattle.rv_script.specs.Bytes.{word_address}
use Rattle.rv_script.specs.Lists.{HasItem}
use Rattle.rv_script.specs.Script.{Label.FetchRoot, Label.FetchSecond}
use Rattle.rv_script.specs.Folds.{Answer.Does, Entry}
use Rattle.sv_walk.specs.Translation.{Reached, At, Fails}
use Rattle.fd_prob.specs.declared.slot.Slot.{Slot}
use Rattle.fd_prob.specs.declared.slot.Slot.TheVariants as slots
use Rattle.rv_script.specs.Logs.{entry_place, entry_label, answer_told, log_of, labelled, by_answers, enlarged, new_value, started, Coherent}
use Rattle.leaf_link.specs.Turns.{Turn, is_free_entry, may_start}
use Rattle.leaf_link.specs.Values.{Values, given_by}
use Rattle.leaf_link.specs.Cases.{Case, Fits, is_some_word}
use Rattle.leaf_link.specs.Fetches.{IsFetchCandidate, fetch_places, fetch_script, fetch_values}
use Rattle.leaf_link.specs.Laws.{OneToOne}

-- the values of two entries
abbrev pub entry_values : ℕ → ℕ → Values
entry_values first second slots.FirstPte = first
entry_values first second slots.SecondPte = second
entry_values first second _ = 0

-- with these new entries, 0 where one is not new, the translation of the pc is done; the new entries are of the forms, in table frames and distinct
pub record FetchWalks (t : Turn) (first second : ℕ) (log : List Entry) (end : Reached) : Type 0 where
  pub plays : answer_told (by_answers t.known (given_by (entry_values first second))) (fetch_script t) ≡ Does log end
  pub may : (i : Instr) (e : Entry) → HasItem log e → t.known (entry_place e) ≡ None → may_start t i (entry_label e) (entry_place e) e.value ≡ true
  pub coherent : Coherent t.known log
  pub first_is : first ≡ new_value t.known (labelled log FetchRoot)
  pub second_is : second ≡ new_value t.known (labelled log FetchSecond)

-- some new entries, and where the pc leads with them
pub record FetchRow : Type 0 where
  pub holds : ℕ → ℕ → Bool
  pub end : Reached

-- new entries of the forms are in a row, with the end that the translation has; a row holds nothing else
pub record AreFetchRows (t : Turn) (rows : List FetchRow) : Type 0 where
  pub sound : (row : FetchRow) → HasItem rows row → (first second : ℕ) → row.holds first second ≡ true → (log : List Entry) × FetchWalks t first second log row.end
  pub complete : (first second : ℕ) (log : List Entry) (end : Reached) → FetchWalks t first second log end → (row : FetchRow) × HasItem rows row × (row.holds first second ≡ true) × (row.end ≡ end)

-- what the translation asks
abbrev pub fetch_log : Turn → Values → List Entry
fetch_log t x = log_of (answer_told (by_answers t.known (given_by x)) (fetch_script t))

-- where an entry is new, the word at the pc is not known, and is no new entry
abbrev pub is_fresh : Turn → List Entry → ℕ → Bool
is_fresh t log pa = list_all (λ e. is_some_word (t.known (entry_place e)) || not (is_some_word (enlarged t.known (started t.known log) (Word (word_address pa))))) log

abbrev pub fetch_keeps : Turn → List Entry → ℕ → Bool
fetch_keeps t log pa = list_all (is_free_entry t) log && is_fresh t log pa

-- all variables but the two entries are 0
abbrev pub entry_domain : Slot → ℕ → Bool
entry_domain slots.FirstPte v = true
entry_domain slots.SecondPte v = true
entry_domain _ v = nat_eq v 0

abbrev pub fetch_case : Turn → FetchRow → ℕ → Case
fetch_case t row pa = record { op = 0; doms = entry_domain; holds = λ x. row.holds (x slots.FirstPte) (x slots.SecondPte) && fetch_keeps t (fetch_log t x) pa }

-- a row that leads to a physical address is a case
abbrev pub fetch_case_to : Turn → FetchRow → Reached → List Case → List Case
fetch_case_to t row (At pa) cs = fetch_case t row pa ∷ cs
fetch_case_to t row (Fails cause) cs = cs

abbrev pub fetch_cases : Turn → List FetchRow → List Case
fetch_cases t [] = []
fetch_cases t (row ∷ rows) = fetch_case_to t row row.end (fetch_cases t rows)

-- what fits the fetch problem stands one to one for the fetch candidates, and each is the values of its candidate
abbrev pub FetchProblemsAreExact : Type 0
FetchProblemsAreExact = (t : Turn) (rows : List FetchRow) → AreFetchRows t rows → OneToOne (Fits (fetch_cases t rows)) (IsFetchCandidate t) (fetch_places t) (λ new w. fetch_values t w.log)
