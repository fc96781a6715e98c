-- The questions of a script by what they are for.
use Rattle.std.specs.Prelude.{◌≡◌, ℕ, suc, ◌<◌, ◌≤◌, Bool, true, nat_lt}
use Rattle.rv_script.specs.Script.{Label, Label.FetchRoot, Label.FetchSecond, Label.Fetched, Label.FromRs1, Label.FromRs2, Label.FromCsr, Label.DataRoot, Label.DataSecond, Label.DataWord, Label.FromVector, Question, Question.OfRegister, Question.OfCsr, Question.OfMemory, Question.ToMemory, Script, Script.Ask, Script.Outside, Script.Done}

-- what a question is for; a store is the data access
abbrev pub label_of : Question → Label
label_of (OfRegister label n) = label
label_of (OfCsr label addr) = label
label_of (OfMemory label addr size) = label
label_of (ToMemory addr size value) = DataWord

-- the order in which a step asks
abbrev pub label_number : Label → ℕ
label_number FetchRoot = 0
label_number FetchSecond = 1
label_number Fetched = 2
label_number FromRs1 = 3
label_number FromRs2 = 4
label_number FromCsr = 5
label_number DataRoot = 6
label_number DataSecond = 7
label_number DataWord = 8
label_number FromVector = 9

abbrev pub question_number : Question → ℕ
question_number q = label_number (label_of q)

-- a register is asked for by a label that comes before that of CSRs, as those of rs1 and rs2 do
abbrev pub is_apt : Question → Bool
is_apt (OfRegister label n) = nat_lt (label_number label) 5
is_apt (OfCsr label addr) = true
is_apt (OfMemory label addr size) = true
is_apt (ToMemory addr size value) = true

-- the questions come in ascending order, from this number on and below that one
abbrev pub Between : {A : Type 0} → ℕ → ℕ → Script A → Type 0
Between n m (Ask q next) = (n ≤ question_number q) × (question_number q < m) × (is_apt q ≡ true) × ((v : ℕ) → Between (suc (question_number q)) m (next v))
Between n m Outside = Unit {0}
Between n m (Done a) = Unit {0}

-- each question has a property, whatever was told before
abbrev pub Asks : {A : Type 0} → (Question → Type 0) → Script A → Type 0
Asks P (Ask q next) = P q × ((v : ℕ) → Asks P (next v))
Asks P Outside = Unit {0}
Asks P (Done a) = Unit {0}
