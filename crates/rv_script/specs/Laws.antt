-- What holds of every script.
use Rattle.std.specs.Prelude.{◌≡◌, ℕ, ◌^◌, ◌<◌, true, List, Option, Some}
use Rattle.rv_script.specs.Lists.{HasItem}
use Rattle.rv_script.specs.Bytes.{covers, byte_at}
use Rattle.rv_script.specs.Labels.{Between}
use Rattle.rv_script.specs.Logs.{answer_told, entry_label, labelled}
use Rattle.rv_script.specs.Script.{Question, Question.OfRegister, Question.OfCsr, Question.OfMemory, Question.ToMemory, role_of, Script, ◌>>=◌}
use Rattle.rv_script.specs.Folds.{Teller, Answer.Does, and_then, play, Entry, Sight, asked_of, result_of, notes_of, accesses_of, needs_of, first_missing, answer_by}

-- a whole state has all that is told
abbrev pub Extends : Teller → Sight → Type 0
Extends tell see = (q : Question) (v : ℕ) → tell q ≡ Some v → see q ≡ v

-- what is known of a state says what each whole state that has it does, or the first place that it needs and that is not known
abbrev pub WholeLaw : {L A : Type 0} → (Question → ℕ → Option L) → Script A → Type 0
WholeLaw note s =
    (tell : Teller) (see : Sight) → Extends tell see
    → play note tell s ≡ answer_by (first_missing tell (asked_of s see)) (notes_of note (asked_of s see)) (result_of s see)

-- all that is told by one, the other tells too
abbrev pub TellsMore : Teller → Teller → Type 0
TellsMore tell more = (q : Question) (v : ℕ) → tell q ≡ Some v → more q ≡ Some v

-- what was done on known places is done where more is known
abbrev pub MoreLaw : {L A : Type 0} → (Question → ℕ → Option L) → Script A → Type 0
MoreLaw {L} {A} note s = (tell more : Teller) → TellsMore tell more → (notes : List L) (a : A) → play note tell s ≡ Does notes a → play note more s ≡ Does notes a

-- the same is told of two values of a question's place: of a register or a CSR the value, of two words of memory the bytes that are looked at,
-- of a store nothing
abbrev pub IsSeenAlike : Question → ℕ → ℕ → Type 0
IsSeenAlike (OfRegister label n) v w = w ≡ v
IsSeenAlike (OfCsr label addr) v w = w ≡ v
IsSeenAlike (OfMemory label addr size) v w =
    (v < 2 ^ 32) × (w < 2 ^ 32) × ((b : ℕ) → covers (record { role = role_of label; addr = addr; size = size; value = 0 }) b ≡ true → byte_at b w ≡ byte_at b v)
IsSeenAlike (ToMemory addr size value) v w = Unit {0}

pub record IsSame {A : Type 0} (s : Script A) (see other : Sight) : Type 0 where
  pub result : result_of s other ≡ result_of s see
  pub accesses : accesses_of s other ≡ accesses_of s see
  pub needs : needs_of s other ≡ needs_of s see

-- a script rests on the registers and CSRs that it asks for and on the bytes that it looks at, and on nothing else
abbrev pub LocalLaw : {A : Type 0} → Script A → Type 0
LocalLaw s =
    (see other : Sight)
    → ((e : Entry) → HasItem (asked_of s see) e → IsSeenAlike e.question e.value (other e.question))
    → IsSame s see other

-- one script and then another answer as one answer and then another
abbrev pub BindLaw : {L A B : Type 0} → (Question → ℕ → Option L) → Script A → (A → Script B) → Type 0
BindLaw note s next = (tell : Teller) → play note tell (s >>= next) ≡ and_then (play note tell s) (λ a. play note tell (next a))

-- every answer of the log was told
abbrev pub ToldLaw : {A : Type 0} → Script A → Type 0
ToldLaw {A} s = (tell : Teller) (log : List Entry) (a : A) → answer_told tell s ≡ Does log a → (e : Entry) → HasItem log e → tell e.question ≡ Some e.value

-- who tells the same at the questions of the log gets the same step
abbrev pub SamePlayLaw : {A : Type 0} → Script A → Type 0
SamePlayLaw {A} s =
    (tell other : Teller) (log : List Entry) (a : A) → answer_told tell s ≡ Does log a → ((e : Entry) → HasItem log e → other e.question ≡ Some e.value)
    → answer_told other s ≡ Does log a

-- a script that asks in order asks for each label once
abbrev pub OnceLaw : {A : Type 0} → Script A → Type 0
OnceLaw {A} s =
    (n m : ℕ) (tell : Teller) (log : List Entry) (a : A) → Between n m s → answer_told tell s ≡ Does log a → (e : Entry) → HasItem log e → labelled log (entry_label e) ≡ Some e
