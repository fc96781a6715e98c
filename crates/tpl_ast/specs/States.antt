-- The states of harts and the words of memory with which a test begins, and with which it ends.
use Rattle.std.specs.Prelude.{◌≡◌, ℕ, ◌+◌, ◌%◌, ◌^◌, ◌<◌, ◌≤◌, Bool, true, ◌&&◌, ◌||◌, nat_eq, nat_le, nat_lt, List, [], ◌∷◌}
use Rattle.std.specs.List.{AllByRecursion, list_any}
use Rattle.rv_csr.specs.Table.{csr_address, csr_key, is_legal_at, lazy_csrs}
use Rattle.tpl_ast.specs.declared.template.HartState.{HartState}
use Rattle.tpl_ast.specs.declared.template.Region.{Region}

abbrev pub IsWord : ℕ → Type 0
IsWord n = n < 2 ^ 32

-- ---- places

-- the key of a lazy place: of a register but x0, or of a lazy CSR
abbrev pub is_key : ℕ → Bool
is_key key = (nat_le 1 key && nat_lt key 32) || list_any (λ addr. nat_eq key (csr_key addr)) lazy_csrs

-- keys of lazy places from a number on, in ascending order and each once, with words as values
abbrev pub ArePlaces : ℕ → List (ℕ × ℕ) → Type 0
ArePlaces from [] = Unit {0}
ArePlaces from (e ∷ es) = (from ≤ e.0) × (is_key e.0 ≡ true) × (e.1 < 2 ^ 32) × ArePlaces (e.0 + 1) es

-- the value of a place is legal: any word for a register, and for a CSR what its row of the table allows
abbrev pub is_legal_place : ℕ × ℕ → Bool
is_legal_place e = nat_lt e.0 32 || is_legal_at (csr_address e.0) e.1

-- the fixed parts and the places of a hart
pub record IsState (s : HartState) : Type 0 where
  pub pc : IsWord s.pc
  pub aligned : s.pc % 4 ≡ 0
  pub mstatus : IsWord s.mstatus
  pub medeleg : IsWord s.medeleg
  pub satp : IsWord s.satp
  pub legal_mstatus : is_legal_at 0x300 s.mstatus ≡ true
  pub legal_medeleg : is_legal_at 0x302 s.medeleg ≡ true
  pub legal_satp : is_legal_at 0x180 s.satp ≡ true
  pub places : ArePlaces 0 s.places
  pub legal_places : AllByRecursion (λ e. is_legal_place e ≡ true) s.places

-- ---- words of memory

-- the address lies in one of the regions
abbrev pub is_in_ram : List Region → ℕ → Bool
is_in_ram ram a = list_any (λ r. nat_le r.low a && nat_lt a r.high) ram

-- aligned words of RAM from an address on, in ascending order and each once, with words as values
abbrev pub AreStartWords : List Region → ℕ → List (ℕ × ℕ) → Type 0
AreStartWords ram from [] = Unit {0}
AreStartWords ram from (e ∷ es) = (from ≤ e.0) × (e.0 % 4 ≡ 0) × (is_in_ram ram e.0 ≡ true) × (e.1 < 2 ^ 32) × AreStartWords ram (e.0 + 4) es
