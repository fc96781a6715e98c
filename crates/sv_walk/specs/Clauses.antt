-- What a walk says.
use Rattle.std.specs.Prelude.{◌≡◌, ℕ, ◌/◌, ◌%◌, ◌^◌, Bool, true, All, List, [], map, Option, Some, None}
use Rattle.rv_mem.specs.declared.words.Seen.{Seen}
use Rattle.rv_mem.specs.declared.words.Seen.TheVariants.{Untouched}
use Rattle.rv_mem.specs.Seen.{known_word, is_there}
use Rattle.rv_script.specs.declared.access.Access.{Access}
use Rattle.rv_script.specs.declared.access.Role.TheVariants.{Walk as Walks}
use Rattle.rv_script.specs.declared.place.Place.{Place}
use Rattle.rv_script.specs.declared.place.Place.TheVariants.{Word, Reg, Csr}
use Rattle.rv_script.specs.Script.{place_of, told, access_of, Script, Script.Ask, Script.Outside, Script.Done}
use Rattle.rv_script.specs.Folds.{Known, by_known, Answer, Answer.Does, Answer.Missing as Lacks, Answer.Nowhere, answer_on, answer_by, on_note, asked_of, result_of, accesses_of, first_missing, Sight}
use Rattle.sv_walk.specs.declared.entry.Kind.{Kind}
use Rattle.sv_walk.specs.declared.entry.View.{View}
use Rattle.sv_walk.specs.declared.ending.Walk.{Walk}
use Rattle.sv_walk.specs.declared.ending.WalkEnd.{WalkEnd}
use Rattle.sv_walk.specs.declared.ending.WalkEnd.TheVariants.{Pa, Fault, Outside as EndsOutside, Missing}
use Rattle.sv_walk.specs.Translation.{Reached, At, Fails, translated}

-- a physical address is in RAM, and an entry that is missing is a word of RAM that has no value yet
abbrev pub IsEnd : (ℕ → Seen) → WalkEnd → Type 0
IsEnd at (Pa addr) = is_there (at (addr / 4)) ≡ true
IsEnd at (Missing addr) = (addr % 4 ≡ 0) × (at (addr / 4) ≡ Untouched)
IsEnd at (Fault cause) = Unit {0}
IsEnd at EndsOutside = Unit {0}

-- entries lie at multiples of 4
abbrev pub AreAligned : List (ℕ × ℕ) → Type 0
AreAligned entries = All (λ e. e.0 % 4 ≡ 0) entries

-- a physical address keeps the offset in its page of 2 ^ 12 bytes
abbrev pub KeepsOffset : ℕ → WalkEnd → Type 0
KeepsOffset va (Pa addr) = addr % 2 ^ 12 ≡ va % 2 ^ 12
KeepsOffset va (Fault cause) = Unit {0}
KeepsOffset va (Missing addr) = Unit {0}
KeepsOffset va EndsOutside = Unit {0}

-- an entry that was read, as an access
abbrev pub entry_access : ℕ × ℕ → Access
entry_access e = record { role = Walks; addr = e.0; size = 4; value = e.1 }

-- where a walk ends
abbrev pub end_of : Reached → WalkEnd
end_of (At addr) = Pa addr
end_of (Fails cause) = Fault cause

-- how a walk that read these entries ended
abbrev pub ended : List (ℕ × ℕ) → WalkEnd → Answer Access Reached
ended entries (Pa addr) = Does (map entry_access entries) (At addr)
ended entries (Fault cause) = Does (map entry_access entries) (Fails cause)
ended entries (Missing addr) = Lacks (Word addr)
ended entries EndsOutside = Nowhere

-- what is known of memory alone
abbrev pub known_words : (ℕ → Seen) → Known
known_words at (Word addr) = known_word (at (addr / 4))
known_words at (Reg n) = None
known_words at (Csr addr) = None

abbrev pub ram_of : (ℕ → Seen) → ℕ → Bool
ram_of at n = is_there (at n)

-- the words that are known are those of memory
abbrev pub KnowsWords : Known → (ℕ → Seen) → Type 0
KnowsWords known at = (addr : ℕ) → known (Word addr) ≡ known_word (at (addr / 4))

-- the answer is that of the translation wherever just these words are known
abbrev pub IsWalk : (ℕ → Seen) → View → Kind → ℕ → Walk → Type 0
IsWalk at v kind va w = (known : Known) → KnowsWords known at → ended w.ptes w.outcome ≡ answer_on known (translated (ram_of at) v kind va)

abbrev pub value_in : (ℕ → ℕ) → Place → ℕ
value_in words (Word addr) = words (addr / 4)
value_in words (Reg n) = 0
value_in words (Csr addr) = 0

-- the value of a question's place in a whole memory, a word for each word number
abbrev pub sight_of : (ℕ → ℕ) → Sight
sight_of words q = value_in words (place_of q)

-- a whole memory has the words that are known
abbrev pub HasWords : (ℕ → Seen) → (ℕ → ℕ) → Type 0
HasWords at words = (n v : ℕ) → known_word (at n) ≡ Some v → words n ≡ v

-- the answer is that of the translation on every whole memory that has what is known, or the first entry that it reads and that isn't known
abbrev pub IsTranslation : (ℕ → Seen) → View → Kind → ℕ → Walk → Type 0
IsTranslation at v kind va w =
    (words : ℕ → ℕ) → HasWords at words
    → (let s = translated (ram_of at) v kind va in
    ended w.ptes w.outcome ≡ answer_by (first_missing (by_known (known_words at)) (asked_of s (sight_of words))) (accesses_of s (sight_of words)) (result_of s (sight_of words)))

abbrev pub on_known : {L : Type 0} → Option ℕ → (ℕ → Option L) → (ℕ → List L) → List L
on_known None note rest = []
on_known (Some v) note rest = on_note (note v) (rest v)

-- the accesses that a script makes as far as what it asks for is known
abbrev pub accesses_on : {A : Type 0} → Known → Script A → List Access
accesses_on known (Ask q next) = on_known (known (place_of q)) (access_of q) (λ v. accesses_on known (next (told q v)))
accesses_on known Outside = []
accesses_on known (Done a) = []

-- the entries are those that the translation reads as far as words are known
abbrev pub AreRead : (ℕ → Seen) → View → Kind → ℕ → Walk → Type 0
AreRead at v kind va w = map entry_access w.ptes ≡ accesses_on (known_words at) (translated (ram_of at) v kind va)
