-- Lazy registers by their addresses, and what a write of one leaves of the others.
use Rattle.std.proofs.Common.{◌≡◌, ℕ, length, Some, None, refl, sym, subst, inl, inr, get_or-set_same, get_or-set_other, if◌then◌else◌}
use Rattle.std.specs.Prelude.{slice_set, slice_index_or, nat_eq}
use Rattle.std.proofs.lemmas.Bool.{cases_eq, eq-eqb, ne_eqb}
use Rattle.rv_csr.specs.declared.table.LazyRegister.{LazyRegister}
use Rattle.rv_csr.specs.declared.table.LazyRegister.TheVariants.{Stvec}
use Rattle.rv_csr.specs.declared.table.Register.{Register}
use Rattle.rv_csr.specs.declared.table.Register.TheVariants.{Sstatus, Satp, Mstatus, Medeleg, Mhartid, Lazy}
use Rattle.rv_csr.specs.Laws.{HaveOwnAddresses}
use Rattle.rv_csr.specs.Table.{address_of, register_at}
use Rattle.rv_csr.specs.State.{CsrValues, first_values, lazy_value, lazy_value_at, slot_of, with_lazy}
use Rattle.rv_csr.proofs.LegalValues.{slot_below}

-- the value at a register's own address
pub at_own_address : (csrs : CsrValues) (register : LazyRegister) → lazy_value_at csrs (address_of (Lazy register)) ≡ lazy_value csrs register
at_own_address csrs Stvec = refl
at_own_address csrs _ = refl

-- none has a value at first
pub none_at_first : (hart mstatus medeleg satp : ℕ) (register : LazyRegister) → lazy_value (first_values hart mstatus medeleg satp) register ≡ None
none_at_first hart mstatus medeleg satp Stvec = refl
none_at_first hart mstatus medeleg satp _ = refl

-- a write of a lazy register, seen at each
pub lazy_after : (csrs : CsrValues) (register other : LazyRegister) (n : ℕ) → length csrs.lazy ≡ 10
    → lazy_value (with_lazy register n csrs) other ≡ (if nat_eq (slot_of register) (slot_of other) then Some n else lazy_value csrs other)
lazy_after csrs register other n size = elim (cases_eq (slot_of register) (slot_of other)) [
  | inl same ↦ rw (eq-eqb (slot_of register) (slot_of other) same) (subst (λ (i : ℕ). slice_index_or (slice_set csrs.lazy (slot_of register) (Some n)) i None ≡ Some n) same (get_or-set_same csrs.lazy (slot_of register) (Some n) None (rw size (slot_below register))))
  | inr apart ↦ rw (ne_eqb (slot_of register) (slot_of other) apart) (get_or-set_other csrs.lazy (slot_of register) (slot_of other) (Some n) None (λ e. apart (sym e)))
]

at_itself : (register : Register) → register_at (address_of register) ≡ Some register
at_itself Sstatus = refl
at_itself Satp = refl
at_itself Mstatus = refl
at_itself Medeleg = refl
at_itself Mhartid = refl
at_itself (Lazy Stvec) = refl
at_itself (Lazy _) = refl

pub own_addresses : HaveOwnAddresses
own_addresses = record { registers = at_itself; values = at_own_address }
