-- What a step asks of its state, one question after another, and what it then does.
use Rattle.std.specs.Prelude.{ℕ, Option, Some, None}
use Rattle.rv_script.specs.declared.access.Access.{Access}
use Rattle.rv_script.specs.declared.access.Role.{Role}
use Rattle.rv_script.specs.declared.access.Role.TheVariants.{Fetch, Walk, Load, Store}
use Rattle.rv_script.specs.declared.place.Place.{Place}
use Rattle.rv_script.specs.declared.place.Place.TheVariants.{Reg, Csr, Word}
use Rattle.rv_script.specs.Bytes.{word_address, part_of}

-- what a question is for, in the order in which a step asks
pub data Label : Type 0 where
  FetchRoot : Label  -- the first page table entry of the fetch
  FetchSecond : Label  -- its second one
  Fetched : Label  -- the instruction word
  FromRs1 : Label
  FromRs2 : Label
  FromCsr : Label
  DataRoot : Label  -- the first page table entry of the data access
  DataSecond : Label  -- its second one
  DataWord : Label
  FromVector : Label  -- where a trap goes on

-- one question of a step
pub data Question : Type 0 where
  -- the value of a register, by its number
  OfRegister : Label → ℕ → Question
  -- the value of a CSR, by its address
  OfCsr : Label → ℕ → Question
  -- some bytes of one word of memory: address, size
  OfMemory : Label → ℕ → ℕ → Question
  -- a store, which is told nothing: address, size, the bytes
  ToMemory : ℕ → ℕ → ℕ → Question

-- the place that has to be known before the step can go on
abbrev pub place_of : Question → Place
place_of (OfRegister label n) = Reg n
place_of (OfCsr label addr) = Csr addr
place_of (OfMemory label addr size) = Word (word_address addr)
place_of (ToMemory addr size value) = Word (word_address addr)

-- what is told of the place's value
abbrev pub told : Question → ℕ → ℕ
told (OfRegister label n) value = value
told (OfCsr label addr) value = value
told (OfMemory label addr size) word = part_of addr size word
told (ToMemory addr size value) word = 0

abbrev pub role_of : Label → Role
role_of FetchRoot = Walk
role_of FetchSecond = Walk
role_of Fetched = Fetch
role_of DataRoot = Walk
role_of DataSecond = Walk
role_of FromRs1 = Load
role_of FromRs2 = Load
role_of FromCsr = Load
role_of DataWord = Load
role_of FromVector = Load

-- the access to memory that a question is, where the place has this value
abbrev pub access_of : Question → ℕ → Option Access
access_of (OfRegister label n) value = None
access_of (OfCsr label addr) value = None
access_of (OfMemory label addr size) word = Some (record { role = role_of label; addr = addr; size = size; value = part_of addr size word })
access_of (ToMemory addr size value) word = Some (record { role = Store; addr = addr; size = size; value = value })

-- a question and how the step goes on from what it is told, no step, or the end
pub data Script (A : Type 0) : Type 0 where
  Ask : Question → (ℕ → Script A) → Script A
  Outside : Script A
  Done : A → Script A

infixl 40 ◌>>=◌
-- one script, and then another that has what the first one gives
abbrev pub ◌>>=◌ : {A B : Type 0} → Script A → (A → Script B) → Script B
◌>>=◌ (Ask q next) f = Ask q (λ v. next v >>= f)
◌>>=◌ Outside f = Outside
◌>>=◌ (Done a) f = f a

-- the single questions, for `do`
abbrev pub register : Label → ℕ → Script ℕ
register label n = Ask (OfRegister label n) (λ v. Done v)

abbrev pub csr : Label → ℕ → Script ℕ
csr label addr = Ask (OfCsr label addr) (λ v. Done v)

abbrev pub read : Label → ℕ → ℕ → Script ℕ
read label addr size = Ask (OfMemory label addr size) (λ v. Done v)

abbrev pub write : ℕ → ℕ → ℕ → Script ℕ
write addr size value = Ask (ToMemory addr size value) (λ v. Done v)
