-- The answer of a leaf, and the test behind its step.
use Rattle.std.specs.Prelude.{◌≡◌, ◌%◌, ◌<◌, ◌++◌, ℕ, Bool, false, not, ◌&&◌, nat_eq, if◌then◌else◌, List, [], ◌∷◌, Option, Some, None, length}
use Rattle.rv_isa.specs.Encoding.{word_of}
use Rattle.rv_script.specs.declared.place.Place.{Place}
use Rattle.rv_script.specs.declared.place.Place.TheVariants.{Reg, Csr, Word}
use Rattle.rv_script.specs.Folds.{Answer.Does, Answer.Missing as Lacks, Entry, Known, by_known}
use Rattle.rv_script.specs.Logs.{answer_told, enlarged, value_or}
use Rattle.sv_walk.specs.Entry.{is_invalid, is_pointer}
use Rattle.sv_walk.specs.Translation.{is_translated, root_address, second_address}
use Rattle.foot_map.specs.declared.touch.Touch.{Touch}
use Rattle.foot_map.specs.Races.{IsFootprint}
use Rattle.rv_hart.specs.declared.record.Change.{Change}
use Rattle.rv_hart.specs.declared.record.Record.{Record}
use Rattle.rv_hart.specs.Fixed.{Fixed}
use Rattle.rv_hart.specs.Machine.{data_view, script}
use Rattle.rv_hart.specs.Whole.{record_of}
use Rattle.fd_prob.specs.declared.slot.Slot.{Slot}
use Rattle.fd_prob.specs.declared.slot.Slot.TheVariants as slots
use Rattle.tpl_ast.specs.declared.template.Atom.{Atom}
use Rattle.tpl_admit.specs.Races.{footprints_of}
use Rattle.part_machine.specs.Whole.{Whole, fixed_in, hart_of, next_of, records_of, stepped}
use Rattle.part_state.specs.Meaning.{IsTest, place_given}
use Rattle.part_state.specs.State.{State, Test, tests}
use Rattle.leaf_link.specs.Values.{Values, instr_in, new_places}
use Rattle.leaf_link.specs.Candidates.{IsCandidate, accesses_in}
use Rattle.leaf_link.specs.Placing.{IsInstruction}
use Rattle.leaf_link.specs.Problems.{key_of}
use Rattle.leaf_link.specs.Ways.{AreWords, IsFetched}
use Rattle.turn_laws.specs.Ahead.{AreVectors}
use Rattle.turn_laws.specs.Given.{AreListed, CanGive, Setting, all_given, known_at, turn_at}
use Rattle.turn_laws.specs.Played.{IsPlayed}
use Rattle.leaf_turn.specs.declared.taking.DataWalk.{DataWalk}
use Rattle.leaf_turn.specs.declared.taking.Fetch.{Fetch}
use Rattle.leaf_turn.specs.declared.taking.Fetch.TheVariants as fetches
use Rattle.leaf_link.specs.FetchPlacing.{entry_value}

-- the places that an answer's values start
abbrev pub new_at : ℕ → Whole → Values → Known
new_at k w x = new_places (fixed_in (hart_of k w) w.memory) (known_at k w) x

-- values are those of a candidate for the next step of a hart, which is fetched from a physical address
pub record IsFound (k : ℕ) (w : Whole) (pa : ℕ) (x : Values) : Type 0 where
  pub setting : Setting
  pub feet : List Touch
  pub leaf : List Atom
  pub walk : List Entry
  pub vectors : AreVectors setting.vectors
  pub footprint : IsFootprint feet (footprints_of (λ j. records_of j w))
  pub fetched : IsFetched (turn_at setting feet k w) walk pa
  pub candidate : IsCandidate (turn_at setting feet k w) leaf (new_at k w x)
  pub values : (s : Slot) → x s ≡ key_of (turn_at setting feet k w) leaf (new_at k w x) candidate s
  pub words : AreWords (known_at k w)

-- where a pointer leads, the second entry of an address
abbrev pub second_of : ℕ → ℕ → Option ℕ
second_of ea entry = if not (is_invalid entry) && is_pointer entry then Some (second_address ea entry) else None

-- where the page table entries of the values' address stand, if it is translated; an entry that is not known has their new one
abbrev pub walk_in : Fixed → Known → Values → Option DataWalk
walk_in f known x =
    if is_translated (data_view f)
    then Some (record { root = root_address (data_view f) (x slots.Ea); second = second_of (x slots.Ea) (value_or (known (Word (root_address (data_view f) (x slots.Ea)))) (x slots.FirstPte)) })
    else None

abbrev pub walk_of : ℕ → Whole → Values → Option DataWalk
walk_of k w x = walk_in (fixed_in (hart_of k w) w.memory) (known_at k w) x

abbrev pub is_at : Option ℕ → ℕ → Bool
is_at None addr = false
is_at (Some at) addr = nat_eq addr at

-- a word of the data access is the root entry of its address, the second one, or the data word
abbrev pub word_value : Option DataWalk → Values → ℕ → ℕ
word_value None x addr = x slots.DataWord
word_value (Some walk) x addr = if nat_eq addr walk.root then x slots.FirstPte else if is_at walk.second addr then x slots.SecondPte else x slots.DataWord

-- a word is the fetched one or of the data access, a register is rs1 or else rs2, a CSR is the vector of a trap, or else the one that is read
abbrev pub value_started : Option DataWalk → Values → ℕ → Place → ℕ
value_started walk x pa (Word addr) = if nat_eq addr pa then word_of (instr_in x) else word_value walk x addr
value_started walk x pa (Reg n) = if nat_eq n (x slots.Rs1) then x slots.A else x slots.B
value_started walk x pa (Csr addr) = if nat_eq (x slots.Vector) 0 then x slots.OldCsr else x slots.Vector

-- the value that a place starts with, by how the fetch of the step ends
abbrev pub started_with : Option DataWalk → Values → Fetch → Place → ℕ
started_with walk x (fetches.From pa) place = value_started walk x pa place
started_with walk x (fetches.Fails root) place = entry_value x root place

-- values are those of a step that a hart can make: it is played on what they start, and each new place has its value among them
pub record IsPlayable (k : ℕ) (w : Whole) (fetch : Fetch) (x : Values) : Type 0 where
  pub setting : Setting
  pub feet : List Touch
  pub log : List Entry
  pub change : Change
  pub vectors : AreVectors setting.vectors
  pub footprint : IsFootprint feet (footprints_of (λ j. records_of j w))
  pub aligned : (hart_of k w).pc % 4 ≡ 0
  pub played : IsPlayed (turn_at setting feet k w) (new_at k w x) log change
  pub values : (place : Place) (v : ℕ) → new_at k w x place ≡ Some v → v ≡ started_with (walk_of k w x) x fetch place
  pub instruction : IsInstruction x

-- each place is what the next step lacks when its turn comes, and has its new value
abbrev pub AreAsked : ℕ → Known → List (Place × ℕ) → Whole → Type 0
AreAsked k new [] w = Unit {0}
AreAsked k new (e ∷ es) w = (next_of k w ≡ Lacks e.0) × (new e.0 ≡ Some e.1) × AreAsked k new es (place_given k e.0 e.1 w)

-- new places were given their values, in the order in which the next step asks for them
pub record ArePlaced (k : ℕ) (new : Known) (old now : Whole) : Type 0 where
  pub places : List (Place × ℕ)
  pub can : CanGive k places old
  pub listed : AreListed places new
  pub asked : AreAsked k new places old
  pub is : now ≡ all_given k places old

-- the new places of an answer, registers and CSRs of the hart and words of memory, were given their values, in the order in which the step asks for them
abbrev pub AreGiven : ℕ → Values → Whole → Whole → Type 0
AreGiven k x old new = ArePlaced k (new_at k old x) old new

-- and then it took its next step, with this record
pub record IsTakenBy (k : ℕ) (x : Values) (r : Record) (old new : Whole) : Type 0 where
  pub given : Whole
  pub places : AreGiven k x old given
  pub log : List Entry
  pub change : Change
  pub plays : answer_told (by_known (enlarged (known_at k old) (new_at k old x))) (script (fixed_in (hart_of k old) old.memory)) ≡ Does log change
  pub now : new ≡ stepped k (accesses_in log) change given
  pub record_is : r ≡ record_of (fixed_in (hart_of k old) old.memory) (accesses_in log) change

-- the values of an answer, taken on a test, give one record and one test
abbrev pub TakingsAreOne : Type 0
TakingsAreOne =
    (k : ℕ) (fetch : Fetch) (x : Values) (r s : Record) (old new other : Whole) → IsTest old → k < length old.harts → IsPlayable k old fetch x
    → IsTakenBy k x r old new → IsTakenBy k x s old other → (r ≡ s) × (new ≡ other)

-- RAM, names, choices and dropped biases are as they were, and there are as many harts
pub record IsStill (old new : Whole) : Type 0 where
  pub ram : new.ram ≡ old.ram
  pub names : new.names ≡ old.names
  pub choices : new.choices ≡ old.choices
  pub dropped : new.dropped ≡ old.dropped
  pub harts : length new.harts ≡ length old.harts

-- the test of then, and all before it, still stand at their numbers
pub record AreKept (old new : State) : Type 0 where
  pub more : List Test
  pub behind : tests new ≡ tests old ++ more
