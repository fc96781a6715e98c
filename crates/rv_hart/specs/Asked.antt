-- What a step asks for.
use Rattle.std.specs.Prelude.{◌≡◌, ℕ, ◌%◌, ◌^◌, ◌<◌, Bool, true, ◌||◌, ◌==◌, nat_eq}
use Rattle.std.specs.List.{list_any}
use Rattle.rv_csr.specs.Table.{lazy_csrs}
use Rattle.rv_script.specs.declared.place.Place.{Place}
use Rattle.rv_script.specs.declared.place.Place.TheVariants.{Reg, Csr, Word}
use Rattle.rv_script.specs.Labels.{Asks, Between}
use Rattle.rv_script.specs.Lists.{HasItem}
use Rattle.rv_script.specs.Script.{Question, Question.OfRegister, Question.OfCsr, Question.OfMemory, Question.ToMemory}
use Rattle.sv_walk.specs.Translation.{is_in_ram}
use Rattle.rv_hart.specs.Fixed.{Fixed}
use Rattle.rv_hart.specs.Machine.{script}
use Rattle.rv_hart.specs.Whole.{WholeHart, needed_places}

-- a register is one of 32
abbrev pub IsInFile : Question → Type 0
IsInFile (OfRegister label n) = n < 32
IsInFile (OfCsr label addr) = Unit {0}
IsInFile (OfMemory label addr size) = Unit {0}
IsInFile (ToMemory addr size value) = Unit {0}

-- a step asks in the order of the labels, each one once at most
abbrev pub AsksInOrder : Type 0
AsksInOrder = (f : Fixed) → Between 0 10 (script f)

abbrev pub AsksRegisters : Type 0
AsksRegisters = (f : Fixed) → Asks IsInFile (script f)

-- ---- the places and bytes of the questions

-- the address of a lazy CSR
abbrev pub is_lazy : ℕ → Bool
is_lazy addr = list_any (λ a. nat_eq addr a) lazy_csrs

-- one, two or four
abbrev pub is_size : ℕ → Bool
is_size n = n == 1 || (n == 2 || n == 4)

-- so many bytes of RAM, at a multiple of their number
pub record IsOfRam (ram : ℕ → Bool) (addr count : ℕ) : Type 0 where
  pub size : is_size count ≡ true
  pub aligned : addr % count ≡ 0
  pub there : is_in_ram ram addr ≡ true

-- the value of one of 32 registers or of a lazy CSR, or bytes of RAM; what is stored are so many bytes
abbrev pub IsAskable : (ℕ → Bool) → Question → Type 0
IsAskable ram (OfRegister label n) = n < 32
IsAskable ram (OfCsr label addr) = is_lazy addr ≡ true
IsAskable ram (OfMemory label addr size) = IsOfRam ram addr size
IsAskable ram (ToMemory addr size value) = IsOfRam ram addr size × (value < 256 ^ size)

abbrev pub AsksPlaces : Type 0
AsksPlaces = (f : Fixed) → f.pc % 4 ≡ 0 → Asks (IsAskable f.ram) (script f)

-- ---- the places that it needs

-- x0 to x31, a lazy CSR, or an aligned word of RAM
abbrev pub IsNeedable : (ℕ → Bool) → Place → Type 0
IsNeedable ram (Reg n) = n < 32
IsNeedable ram (Csr addr) = is_lazy addr ≡ true
IsNeedable ram (Word addr) = (addr % 4 ≡ 0) × (is_in_ram ram addr ≡ true)

abbrev pub NeedsPlaces : Type 0
NeedsPlaces = (h : WholeHart) (words : ℕ → ℕ) → h.fixed.pc % 4 ≡ 0 → (place : Place) → HasItem (needed_places h words) place → IsNeedable h.fixed.ram place
