-- What a script does on a state of which a part is known, and on a whole state.
use Rattle.std.specs.Prelude.{ℕ, List, [], ◌∷◌, ◌++◌, map, Option, Some, None}
use Rattle.rv_script.specs.declared.access.Access.{Access}
use Rattle.rv_script.specs.declared.place.Place.{Place}
use Rattle.rv_script.specs.Script.{Question, place_of, told, access_of, Script, Script.Ask, Script.Outside, Script.Done}

-- PLAYED ON WHAT IS KNOWN

-- the values of the places that are known
abbrev pub Known : Type 0
Known = Place → Option ℕ

-- the value of the place of each question, where it can be told
abbrev pub Teller : Type 0
Teller = Question → Option ℕ

-- what is known is told, whatever the question is for
abbrev pub by_known : Known → Teller
by_known known q = known (place_of q)

-- what a script does, with its notes in order; or the first place that is not known; or that there is no step
pub data Answer (L A : Type 0) : Type 0 where
  Does : List L → A → Answer L A
  Missing : Place → Answer L A
  Nowhere : Answer L A

-- the same with these notes before
abbrev pub prefixed : {L A : Type 0} → List L → Answer L A → Answer L A
prefixed xs (Does ys a) = Does (xs ++ ys) a
prefixed xs (Missing place) = Missing place
prefixed xs Nowhere = Nowhere

abbrev pub noted : {L A : Type 0} → Option L → Answer L A → Answer L A
noted None answer = answer
noted (Some x) answer = prefixed (x ∷ []) answer

-- one answer, and then another
abbrev pub and_then : {L A B : Type 0} → Answer L A → (A → Answer L B) → Answer L B
and_then (Does xs a) f = prefixed xs (f a)
and_then (Missing place) f = Missing place
and_then Nowhere f = Nowhere

abbrev pub on_told : {L A : Type 0} → Option ℕ → Place → (ℕ → Answer L A) → Answer L A
on_told None place next = Missing place
on_told (Some v) place next = next v

-- a script played as far as its questions can be told, with a note of each one
abbrev pub play : {L A : Type 0} → (Question → ℕ → Option L) → Teller → Script A → Answer L A
play note tell (Ask q next) = on_told (tell q) (place_of q) (λ v. noted (note q v) (play note tell (next (told q v))))
play note tell Outside = Nowhere
play note tell (Done a) = Does [] a

-- the answer on what is known, with its accesses
abbrev pub answer_on : {A : Type 0} → Known → Script A → Answer Access A
answer_on known s = play access_of (by_known known) s

-- a question and the value of its place
pub record Entry : Type 0 where
  pub question : Question
  pub value : ℕ

abbrev pub entry_of : Question → ℕ → Option Entry
entry_of q v = Some (record { question = q; value = v })

-- PLAYED ON A WHOLE STATE

-- the value of the place of every question; the words that a walk or a fetch sees may be others than those of a load
abbrev pub Sight : Type 0
Sight = Question → ℕ

-- all that is asked, in order
abbrev pub asked_of : {A : Type 0} → Script A → Sight → List Entry
asked_of (Ask q next) see = record { question = q; value = see q } ∷ asked_of (next (told q (see q))) see
asked_of Outside see = []
asked_of (Done a) see = []

-- what it does in the end, where it has an end
abbrev pub result_of : {A : Type 0} → Script A → Sight → Option A
result_of (Ask q next) see = result_of (next (told q (see q))) see
result_of Outside see = None
result_of (Done a) see = Some a

-- the notes of what was asked
abbrev pub on_note : {L : Type 0} → Option L → List L → List L
on_note None xs = xs
on_note (Some x) xs = x ∷ xs

abbrev pub notes_of : {L : Type 0} → (Question → ℕ → Option L) → List Entry → List L
notes_of note [] = []
notes_of note (e ∷ log) = on_note (note e.question e.value) (notes_of note log)

-- the accesses to memory, in the order of execution
abbrev pub accesses_of : {A : Type 0} → Script A → Sight → List Access
accesses_of s see = notes_of access_of (asked_of s see)

-- the places on which it rests, in the order in which it asks
abbrev pub needs_of : {A : Type 0} → Script A → Sight → List Place
needs_of s see = map (λ e. place_of e.question) (asked_of s see)

-- the first place of these questions that cannot be told
abbrev pub or_next : Option ℕ → Place → Option Place → Option Place
or_next None place later = Some place
or_next (Some v) place later = later

abbrev pub first_missing : Teller → List Entry → Option Place
first_missing tell [] = None
first_missing tell (e ∷ log) = or_next (tell e.question) (place_of e.question) (first_missing tell log)

-- the answer of a whole state to which some places are not told
abbrev pub answer_by : {L A : Type 0} → Option Place → List L → Option A → Answer L A
answer_by (Some place) notes result = Missing place
answer_by None notes None = Nowhere
answer_by None notes (Some a) = Does notes a
