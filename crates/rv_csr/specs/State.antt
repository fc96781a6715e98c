-- The values of a hart's registers, each of them legal.
use Rattle.std.specs.Prelude.{◌≡◌, ℕ, ◌^◌, ◌<◌, Bool, true, false, List, length, replicate, slice_index_or, slice_set, Option, Some, None, IfSome, is_none}
use Rattle.rv_csr.specs.declared.table.Register.{Register}
use Rattle.rv_csr.specs.declared.table.Register.TheVariants.{Sstatus, Satp, Mstatus, Medeleg, Mhartid, Lazy}
use Rattle.rv_csr.specs.declared.table.LazyRegister.{LazyRegister}
use Rattle.rv_csr.specs.declared.table.LazyRegister.TheVariants.{Stvec, Sscratch, Sepc, Scause, Stval, Mtvec, Mscratch, Mepc, Mcause, Mtval}
use Rattle.rv_csr.specs.Table.{is_legal, register_at}
use Rattle.rv_csr.specs.Status.{sstatus_of, with_sstatus}

pub record CsrValues : Type 0 where
  pub mstatus : ℕ
  pub medeleg : ℕ
  pub satp : ℕ
  -- mhartid, the hart's number
  pub hart : ℕ
  -- the lazy registers in the order of the table, None where the value is not known
  pub lazy : List (Option ℕ)

-- the place of a lazy register among them
abbrev pub slot_of : LazyRegister → ℕ
slot_of Stvec = 0
slot_of Sscratch = 1
slot_of Sepc = 2
slot_of Scause = 3
slot_of Stval = 4
slot_of Mtvec = 5
slot_of Mscratch = 6
slot_of Mepc = 7
slot_of Mcause = 8
slot_of Mtval = 9

abbrev pub lazy_value : CsrValues → LazyRegister → Option ℕ
lazy_value csrs register = slice_index_or csrs.lazy (slot_of register) None

-- the value of a register, where it is known
abbrev pub value_of : CsrValues → Register → Option ℕ
value_of csrs Sstatus = Some (sstatus_of csrs.mstatus)
value_of csrs Satp = Some csrs.satp
value_of csrs Mstatus = Some csrs.mstatus
value_of csrs Medeleg = Some csrs.medeleg
value_of csrs Mhartid = Some csrs.hart
value_of csrs (Lazy register) = lazy_value csrs register

abbrev pub with_lazy : LazyRegister → ℕ → CsrValues → CsrValues
with_lazy register n csrs = record csrs { lazy = slice_set csrs.lazy (slot_of register) (Some n) }

-- the values after one is written; a write of sstatus replaces its bits of mstatus (Privileged, 4.1.1)
abbrev pub with_value : Register → ℕ → CsrValues → CsrValues
with_value Sstatus n csrs = record csrs { mstatus = with_sstatus n csrs.mstatus }
with_value Satp n csrs = record csrs { satp = n }
with_value Mstatus n csrs = record csrs { mstatus = n }
with_value Medeleg n csrs = record csrs { medeleg = n }
with_value Mhartid n csrs = csrs
with_value (Lazy register) n csrs = with_lazy register n csrs

-- the values where no lazy register is known
abbrev pub first_values : ℕ → ℕ → ℕ → ℕ → CsrValues
first_values hart mstatus medeleg satp = record { mstatus = mstatus; medeleg = medeleg; satp = satp; hart = hart; lazy = replicate 10 None }

-- each value that is known is a word that is legal for its register
pub record AreLegalLazy (values : List (Option ℕ)) : Type 0 where
  pub size : length values ≡ 10
  pub words : (register : LazyRegister) → IfSome (slice_index_or values (slot_of register) None) (λ n. n < 2 ^ 32)
  pub legal : (register : LazyRegister) → IfSome (slice_index_or values (slot_of register) None) (λ n. is_legal (Lazy register) n ≡ true)

pub record IsLegal (csrs : CsrValues) : Type 0 where
  pub mstatus : is_legal Mstatus csrs.mstatus ≡ true
  pub medeleg : is_legal Medeleg csrs.medeleg ≡ true
  pub satp : is_legal Satp csrs.satp ≡ true
  pub hart : csrs.hart < 2 ^ 32
  pub lazy : AreLegalLazy csrs.lazy

abbrev pub known_in : CsrValues → Option Register → Option ℕ
known_in csrs (Some (Lazy register)) = lazy_value csrs register
known_in csrs _ = None

-- the value of the lazy register at an address, where there is one and it is known
abbrev pub lazy_value_at : CsrValues → ℕ → Option ℕ
lazy_value_at csrs address = known_in csrs (register_at address)

abbrev pub is_unknown : CsrValues → Option Register → Bool
is_unknown csrs (Some (Lazy register)) = is_none (lazy_value csrs register)
is_unknown csrs _ = false

-- the address is that of a lazy register whose value is not known
abbrev pub is_untouched : CsrValues → ℕ → Bool
is_untouched csrs address = is_unknown csrs (register_at address)

abbrev pub with_first : Option Register → ℕ → CsrValues → CsrValues
with_first (Some (Lazy register)) n csrs = with_lazy register n csrs
with_first _ n csrs = csrs

-- the values after the lazy register at an address is given its first one
abbrev pub started : ℕ → ℕ → CsrValues → CsrValues
started address n csrs = with_first (register_at address) n csrs
