-- What writes, traps and returns do to each value and to each field of mstatus.
use Rattle.std.specs.Prelude.{◌≡◌, ◌≢◌, ℕ, ◌-◌, ◌^◌, Bool, true, false, ◌&&◌, length, Some, None, nat_eq, if◌then◌else◌, bit_and}
use Rattle.rv_csr.specs.declared.privilege.Priv.{Priv}
use Rattle.rv_csr.specs.declared.privilege.Priv.TheVariants.{U, M}
use Rattle.rv_csr.specs.declared.status.Flag.{Flag}
use Rattle.rv_csr.specs.declared.status.Flag.TheVariants.{Sie, Mie, Spie, Mpie, Spp, Mprv}
use Rattle.rv_csr.specs.declared.table.Register.{Register}
use Rattle.rv_csr.specs.declared.table.LazyRegister.{LazyRegister}
use Rattle.rv_csr.specs.declared.table.Register.TheVariants.{Sstatus, Mstatus, Lazy}
use Rattle.rv_csr.specs.Table.{address_of, is_legal, register_at, sstatus_mask}
use Rattle.rv_csr.specs.Status.{is_set, mpp_of, spp_of, status_after_mret, status_after_sret, trapped_to_machine, trapped_to_supervisor, with_sstatus}
use Rattle.rv_csr.specs.State.{CsrValues, IsLegal, first_values, lazy_value, lazy_value_at, slot_of, value_of, with_lazy, with_value}

-- a legal value is read as it was written
abbrev pub KeepsWritten : Type 0
KeepsWritten = (csrs : CsrValues) (register : Register) (n : ℕ) → IsLegal csrs → is_legal register n ≡ true → value_of (with_value register n csrs) register ≡ Some n

abbrev pub is_status : Register → Bool
is_status Sstatus = true
is_status Mstatus = true
is_status _ = false

-- a write changes no other register, but that mstatus and sstatus share bits
abbrev pub KeepsOthers : Type 0
KeepsOthers = (csrs : CsrValues) (register other : Register) (n : ℕ) → other ≢ register → (is_status other && is_status register) ≡ false → value_of (with_value register n csrs) other ≡ value_of csrs other

-- a write of sstatus changes no bit of mstatus outside its mask (Privileged, 4.1.1)
abbrev pub KeepsHiddenBits : Type 0
KeepsHiddenBits = (status n : ℕ) → bit_and n sstatus_mask ≡ n → bit_and (with_sstatus n status) (2 ^ 32 - 1 - sstatus_mask) ≡ bit_and status (2 ^ 32 - 1 - sstatus_mask)

-- a trap to M (Privileged, 3.1.6.1)
pub record TrapsToMachine (from : Priv) (old new : ℕ) : Type 0 where
  pub mpp : mpp_of new ≡ from
  pub mie : is_set Mie new ≡ false
  pub mpie : is_set Mpie new ≡ is_set Mie old
  pub others : (flag : Flag) → flag ≢ Mie → flag ≢ Mpie → is_set flag new ≡ is_set flag old

-- a trap to S, which no trap from M is (Privileged, 3.1.6.1)
pub record TrapsToSupervisor (from : Priv) (old new : ℕ) : Type 0 where
  pub spp : from ≢ M → spp_of new ≡ from
  pub sie : is_set Sie new ≡ false
  pub spie : is_set Spie new ≡ is_set Sie old
  pub mpp : mpp_of new ≡ mpp_of old
  pub others : (flag : Flag) → flag ≢ Sie → flag ≢ Spie → flag ≢ Spp → is_set flag new ≡ is_set flag old

-- an MRET (Privileged, 3.1.6.1 and 3.1.6.3)
pub record ReturnsFromMachine (old new : ℕ) : Type 0 where
  pub mie : is_set Mie new ≡ is_set Mpie old
  pub mpie : is_set Mpie new ≡ true
  pub mpp : mpp_of new ≡ U
  pub mprv_below : mpp_of old ≢ M → is_set Mprv new ≡ false
  pub mprv_kept : mpp_of old ≡ M → is_set Mprv new ≡ is_set Mprv old
  pub others : (flag : Flag) → flag ≢ Mie → flag ≢ Mpie → flag ≢ Mprv → is_set flag new ≡ is_set flag old

-- an SRET (Privileged, 3.1.6.1 and 3.1.6.3)
pub record ReturnsFromSupervisor (old new : ℕ) : Type 0 where
  pub sie : is_set Sie new ≡ is_set Spie old
  pub spie : is_set Spie new ≡ true
  pub spp : spp_of new ≡ U
  pub mprv : is_set Mprv new ≡ false
  pub mpp : mpp_of new ≡ mpp_of old
  pub others : (flag : Flag) → flag ≢ Sie → flag ≢ Spie → flag ≢ Spp → flag ≢ Mprv → is_set flag new ≡ is_set flag old

abbrev pub MovesStatus : Type 0
MovesStatus = (from : Priv) (status : ℕ) → TrapsToMachine from status (trapped_to_machine from status) × TrapsToSupervisor from status (trapped_to_supervisor from status)

abbrev pub RestoresStatus : Type 0
RestoresStatus = (status : ℕ) → ReturnsFromMachine status (status_after_mret status) × ReturnsFromSupervisor status (status_after_sret status)

-- each register is the one at its own address, and the value of a lazy one is found there
pub record HaveOwnAddresses : Type 0 where
  pub registers : (register : Register) → register_at (address_of register) ≡ Some register
  pub values : (csrs : CsrValues) (register : LazyRegister) → lazy_value_at csrs (address_of (Lazy register)) ≡ lazy_value csrs register

-- no lazy register has a value at first
abbrev pub StartUnknown : Type 0
StartUnknown = (hart mstatus medeleg satp : ℕ) (register : LazyRegister) → lazy_value (first_values hart mstatus medeleg satp) register ≡ None

-- a write of a lazy register changes its value and that of no other
abbrev pub WritesOneLazy : Type 0
WritesOneLazy = (csrs : CsrValues) (register other : LazyRegister) (n : ℕ) → length csrs.lazy ≡ 10
    → lazy_value (with_lazy register n csrs) other ≡ (if nat_eq (slot_of register) (slot_of other) then Some n else lazy_value csrs other)

-- no two lazy registers share a slot
abbrev pub HaveOwnSlots : Type 0
HaveOwnSlots = (a b : LazyRegister) → slot_of a ≡ slot_of b → a ≡ b
