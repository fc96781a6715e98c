-- The log of a script that was played, what is known with more places, and the places that are new.
use Rattle.std.specs.Prelude.{◌≡◌, ℕ, Bool, true, false, nat_eq, if◌then◌else◌, List, [], ◌∷◌, Option, Some, None}
use Rattle.rv_script.specs.declared.place.Place.{Place}
use Rattle.rv_script.specs.declared.place.Place.TheVariants.{Reg, Csr, Word}
use Rattle.rv_script.specs.Lists.{HasItem}
use Rattle.rv_script.specs.Script.{Label, Question, place_of, Script}
use Rattle.rv_script.specs.Folds.{Known, Teller, Answer, Answer.Does, Answer.Missing, Answer.Nowhere, Entry, entry_of, play}
use Rattle.rv_script.specs.Labels.{label_of, label_number}

-- PLACES

abbrev pub same_place : Place → Place → Bool
same_place (Reg n) (Reg m) = nat_eq n m
same_place (Csr n) (Csr m) = nat_eq n m
same_place (Word n) (Word m) = nat_eq n m
same_place _ _ = false

abbrev pub is_register : Place → Bool
is_register (Reg n) = true
is_register (Csr addr) = false
is_register (Word addr) = false

abbrev pub is_word : Place → Bool
is_word (Word n) = true
is_word _ = false

abbrev pub entry_place : Entry → Place
entry_place e = place_of e.question

abbrev pub entry_label : Entry → Label
entry_label e = label_of e.question

-- the log of a script that is played to its end
abbrev pub answer_told : {A : Type 0} → Teller → Script A → Answer Entry A
answer_told tell s = play entry_of tell s

abbrev pub log_of : {A : Type 0} → Answer Entry A → List Entry
log_of (Does log a) = log
log_of (Missing place) = []
log_of Nowhere = []

-- the first answer about a place
abbrev pub found : List Entry → Place → Option ℕ
found [] place = None
found (e ∷ log) place = if same_place (entry_place e) place then Some e.value else found log place

-- the answer to the question with a label
abbrev pub labelled : List Entry → Label → Option Entry
labelled [] label = None
labelled (e ∷ log) label = if nat_eq (label_number (entry_label e)) (label_number label) then Some e else labelled log label

-- MORE PLACES

abbrev pub or_else : Option ℕ → Option ℕ → Option ℕ
or_else (Some v) o = Some v
or_else None o = o

-- what is known, and these places where they are not known
abbrev pub enlarged : Known → Known → Known
enlarged known new place = or_else (known place) (new place)

abbrev pub where_unknown : Option ℕ → Option ℕ → Option ℕ
where_unknown (Some v) o = None
where_unknown None o = o

-- the places of a log that were not known, with their values
abbrev pub started : Known → List Entry → Known
started known log place = where_unknown (known place) (found log place)

abbrev pub or_given : Option ℕ → ℕ → Option ℕ
or_given (Some v) w = Some v
or_given None w = Some w

-- what is known, or else the answer that is given to the question
abbrev pub by_answers : Known → (Label → ℕ) → Teller
by_answers known given q = or_given (known (place_of q)) (given (label_of q))

abbrev pub value_or : Option ℕ → ℕ → ℕ
value_or (Some w) v = w
value_or None v = v

-- a question with the answer that is told
abbrev pub answer : Known → (Label → ℕ) → Question → Entry
answer known given q = record { question = q; value = value_or (known (place_of q)) (given (label_of q)) }

-- the value at a question, where its place was not known, and else 0
abbrev pub if_new : Option ℕ → ℕ → ℕ
if_new (Some w) v = 0
if_new None v = v

abbrev pub new_value : Known → Option Entry → ℕ
new_value known None = 0
new_value known (Some e) = if_new (known (entry_place e)) e.value

-- the value at a question, known or not
abbrev pub value_in : Option Entry → ℕ
value_in None = 0
value_in (Some e) = e.value

-- one new place has one value, and a new word has one use
abbrev pub Coherent : Known → List Entry → Type 0
Coherent known log = (e f : Entry) → HasItem log e → HasItem log f → known (entry_place e) ≡ None → entry_place e ≡ entry_place f → (is_word (entry_place e) ≡ true → entry_label e ≡ entry_label f) × (e.value ≡ f.value)
