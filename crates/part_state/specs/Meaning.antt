-- What a whole means: a start, and how far each hart has come from it.
use Rattle.std.specs.Prelude.{◌≡◌, ◌↔◌, ℕ, ◌/◌, ◌%◌, ◌^◌, ◌<◌, IsTrue, true, nat_eq, nat_lt, if◌then◌else◌, List, length, slice_index_or, Option, Some, None}
use Rattle.rv_csr.specs.State.{lazy_value_at}
use Rattle.rv_csr.specs.declared.table.LazyRegister.{LazyRegister}
use Rattle.rv_csr.specs.declared.table.Register.TheVariants.{Lazy}
use Rattle.rv_csr.specs.Table.{csr_address, is_legal_at, register_at}
use Rattle.rv_mem.specs.declared.words.Seen.{Seen}
use Rattle.rv_mem.specs.Seen.{known_word, is_there}
use Rattle.rv_mem.specs.Ram.{in_ram}
use Rattle.rv_script.specs.declared.access.Access.{Access}
use Rattle.rv_script.specs.declared.access.Role.{Role}
use Rattle.rv_script.specs.Lists.{HasItem}
use Rattle.rv_script.specs.Bytes.{covers}
use Rattle.part_machine.specs.Notes.{Feet}
use Rattle.rv_script.specs.declared.place.Place.{Place}
use Rattle.rv_script.specs.declared.place.Place.TheVariants.{Reg, Csr, Word}
use Rattle.rv_script.specs.Folds.{Answer.Does as DoesSo}
use Rattle.foot_map.specs.Races.{IsRaceFree}
use Rattle.rv_hart.specs.declared.record.Change.{Change}
use Rattle.tpl_admit.specs.Races.{footprints_of}
use Rattle.part_laws.specs.Partial.{Held, Partial, IsPartialTest, advanced}
use Rattle.part_machine.specs.Whole.{Bare, fixed_in, Whole, given, known_in, first_of, hart_of, records_of, next_of, register_given, csr_given, word_given}

-- the value of the place of a key, where it is known; x0 has no key
abbrev pub value_of_key : Bare → ℕ → Option ℕ
value_of_key b key = if nat_lt key 32 then (if nat_eq key 0 then None else slice_index_or b.regs key None) else lazy_value_at b.csrs (csr_address key)

abbrev pub held_in : Bare → (ℕ → Seen) → Held
held_in b at = record { fixed = fixed_in b at; places = value_of_key b }

abbrev pub partial_of : Whole → Partial
partial_of w = record {
  count = length w.harts;
  start = λ k. held_in (first_of k w) w.memory;
  words = given w.words;
  records = λ k. records_of k w;
  harts = λ k. held_in (hart_of k w) w.memory;
  memory = λ n. known_word (w.memory n);
}

-- a hart as the machine has it
pub record IsFit (b : Bare) : Type 0 where
  pub size : length b.regs ≡ 32
  pub zero : slice_index_or b.regs 0 None ≡ Some 0
  pub lazy : length b.csrs.lazy ≡ 10

-- the footprints are exactly the bytes of the records' accesses
abbrev pub IsFootOf : Feet → (ℕ → List Access) → Type 0
IsFootOf feet did = (b h : ℕ) (r : Role) → (feet b h r ≡ true) ↔ ((x : Access) × HasItem (did h) x × (x.role ≡ r) × (covers x b ≡ true))

-- the whole is a test so far
pub record IsTest (w : Whole) : Type 0 where
  pub first : length w.first ≡ length w.harts
  pub traces : length w.traces ≡ length w.harts
  pub fit_first : (k : ℕ) → k < length w.harts → IsFit (first_of k w)
  pub fit : (k : ℕ) → k < length w.harts → IsFit (hart_of k w)
  pub number_first : (k : ℕ) → k < length w.harts → (first_of k w).csrs.hart ≡ k
  pub number : (k : ℕ) → k < length w.harts → (hart_of k w).csrs.hart ≡ k
  pub there : (n : ℕ) → is_there (w.memory n) ≡ in_ram w.ram n
  pub small : (n v : ℕ) → given w.words n ≡ Some v → (n < 2 ^ 30) × (v < 2 ^ 32)
  pub test : IsPartialTest (partial_of w)
  pub foot : IsFootOf w.feet (footprints_of (λ k. records_of k w))

-- no value is known of a register
abbrev pub IsRegisterUntouched : ℕ → ℕ → Whole → Type 0
IsRegisterUntouched k n w = slice_index_or (hart_of k w).regs n None ≡ None

-- the next step of hart k races with nothing
abbrev pub IsClear : ℕ → Whole → Type 0
IsClear k w = (xs : List Access) (c : Change) → next_of k w ≡ DoesSo xs c → IsRaceFree (footprints_of (advanced k xs c (partial_of w)).records)

-- a register, a CSR or an aligned word
abbrev pub IsNamed : Place → Type 0
IsNamed (Reg n) = n < 32
IsNamed (Csr addr) = Unit {0}
IsNamed (Word addr) = addr % 4 ≡ 0

-- a place that a start can give: a register but x0, a lazy CSR, an aligned word of RAM
abbrev pub IsStartable : List (ℕ × ℕ) → Place → Type 0
IsStartable ram (Reg n) = (0 < n) × (n < 32)
IsStartable ram (Csr addr) = (r : LazyRegister) × (register_at addr ≡ Some (Lazy r))
IsStartable ram (Word addr) = (addr % 4 ≡ 0) × (in_ram ram (addr / 4) ≡ true)

-- a value that a place may have
abbrev pub IsLegalValue : Place → ℕ → Type 0
IsLegalValue (Reg n) v = Unit {0}
IsLegalValue (Csr addr) v = IsTrue (is_legal_at addr v)
IsLegalValue (Word addr) v = Unit {0}

-- the place has no value yet, and this is a legal first one
pub record CanStart (k : ℕ) (place : Place) (v : ℕ) (w : Whole) : Type 0 where
  pub startable : IsStartable w.ram place
  pub unknown : known_in (hart_of k w) w.memory place ≡ None
  pub legal : IsLegalValue place v

abbrev pub place_given : ℕ → Place → ℕ → Whole → Whole
place_given k (Reg n) v w = register_given k n v w
place_given k (Csr addr) v w = csr_given k addr v w
place_given k (Word addr) v w = word_given addr v w
