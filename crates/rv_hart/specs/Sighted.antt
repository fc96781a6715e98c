-- What a step sees where sights stand in place of the words of memory.
use Rattle.std.specs.Prelude.{ℕ, ◌*◌, Option, Some, None}
use Rattle.std.specs.Option.{option_or, unwrap_or}
use Rattle.rv_mem.specs.declared.words.Seen.{Seen}
use Rattle.rv_mem.specs.declared.words.Seen.TheVariants.{Known as KnownWord, Vacant}
use Rattle.rv_script.specs.declared.access.Access.{Access}
use Rattle.rv_script.specs.Bytes.{word_address}
use Rattle.rv_script.specs.Script.{Label, Label.FetchRoot, Label.FetchSecond, Label.Fetched, Label.FromRs1, Label.FromRs2, Label.FromCsr, Label.DataRoot, Label.DataSecond, Label.DataWord, Label.FromVector, Question.OfRegister, Question.OfCsr, Question.OfMemory, Question.ToMemory, place_of, access_of, Script}
use Rattle.rv_script.specs.Folds.{Known, Teller, Sight, Answer, play}
use Rattle.sv_walk.specs.declared.entry.Kind.{Kind}
use Rattle.sv_walk.specs.declared.entry.Kind.TheVariants.{Fetch}
use Rattle.rv_hart.specs.Whole.{WholeHart, sight_of, Step, sighted_step_of}

-- Sights are a `Teller`: the word that a question sees in place of that of memory, where there is one.

-- a step without sights
abbrev pub no_sights : Teller
no_sights q = None

-- the word of a role and an address for a question of memory by what it is for; registers, loads and stores have no role
abbrev pub sighted_for : Label → (ℕ → ℕ → Option ℕ) → ℕ → Option ℕ
sighted_for FetchRoot words addr = words 0 addr
sighted_for FetchSecond words addr = words 0 addr
sighted_for Fetched words addr = words 1 addr
sighted_for DataRoot words addr = words 2 addr
sighted_for DataSecond words addr = words 2 addr
sighted_for FromRs1 words addr = None
sighted_for FromRs2 words addr = None
sighted_for FromCsr words addr = None
sighted_for DataWord words addr = None
sighted_for FromVector words addr = None

-- the sights that are given by words: 0 is the role of the page table entries of the fetch, 1 that of the fetched word, 2 that of the page
-- table entries of the data access
abbrev pub sighted : (ℕ → ℕ → Option ℕ) → Teller
sighted words (OfMemory label addr size) = sighted_for label words (word_address addr)
sighted words (OfRegister label n) = None
sighted words (OfCsr label addr) = None
sighted words (ToMemory addr size value) = None

-- what is told of a state of which a part is known
abbrev pub told_with : Teller → Known → Teller
told_with sights known q = option_or (sights q) (known (place_of q))

-- what is seen of a whole state
abbrev pub seen_with : Teller → Sight → Sight
seen_with sights see q = unwrap_or (sights q) (see q)

-- the answer on what is known, with its accesses
abbrev pub answer_seen : {A : Type 0} → Teller → Known → Script A → Answer Access A
answer_seen sights known s = play access_of (told_with sights known) s

-- one instruction or one trap, or none where the machine has none
abbrev pub step_seen_of : Teller → WholeHart → (ℕ → ℕ) → Option Step
step_seen_of sights h words = sighted_step_of h.fixed (seen_with sights (sight_of h.file words))

-- a word of RAM that has a sight is seen as that
abbrev pub seen_or : Option ℕ → Seen → Seen
seen_or o Vacant = Vacant
seen_or None seen = seen
seen_or (Some w) seen = KnownWord w

-- memory as reads in a role see it, by the numbers of words
abbrev pub at_role : (ℕ → ℕ → Option ℕ) → ℕ → (ℕ → Seen) → ℕ → Seen
at_role words role at n = seen_or (words role (n * 4)) (at n)

-- the role of the page table entries of an access
abbrev pub walk_role : Kind → ℕ
walk_role Fetch = 0
walk_role _ = 2
