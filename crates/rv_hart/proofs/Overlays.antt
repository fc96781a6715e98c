-- What a step writes to control and status registers does not rest on the values that are not known.
use Rattle.std.proofs.Common.{◌≡◌, ℕ, Bool, true, false, length, Option, Some, None, refl, sym, ap, ◌∙◌, if◌then◌else◌}
use Rattle.std.specs.Prelude.{nat_eq}
use Rattle.std.proofs.lemmas.List.{length-set}
use Rattle.rv_csr.specs.declared.privilege.Priv.{Priv}
use Rattle.rv_csr.specs.declared.privilege.Priv.TheVariants.{U, S, M}
use Rattle.rv_csr.specs.declared.table.LazyRegister.{LazyRegister}
use Rattle.rv_csr.specs.declared.table.LazyRegister.TheVariants.{Sepc, Scause, Stval, Mepc, Mcause, Mtval}
use Rattle.rv_csr.specs.declared.table.Register.{Register}
use Rattle.rv_csr.specs.declared.table.Register.TheVariants.{Sstatus, Satp, Mstatus, Medeleg, Mhartid, Lazy}
use Rattle.rv_csr.specs.State.{CsrValues, first_values, known_in, lazy_value, lazy_value_at, slot_of, with_lazy, with_value}
use Rattle.rv_csr.specs.Status.{trapped_to_machine, trapped_to_supervisor}
use Rattle.rv_csr.specs.Table.{register_at}
use Rattle.rv_csr.specs.Traps.{takes_trap, trapped_to}
use Rattle.rv_csr.proofs.Places.{lazy_after, none_at_first}
use Rattle.rv_hart.specs.declared.record.Control.{Control}
use Rattle.rv_hart.specs.declared.record.Control.TheVariants.{Stay, Write, Trap, Mret, Sret}
use Rattle.rv_hart.specs.Changes.{csrs_after}

-- a new value, or else the old one
abbrev pub or_old : Option ℕ → Option ℕ → Option ℕ
or_old None old = old
or_old (Some v) old = Some v

-- the same fixed ones, of which no lazy one is known
abbrev pub bare : CsrValues → CsrValues
bare csrs = first_values csrs.hart csrs.mstatus csrs.medeleg csrs.satp

-- new values are those that were written, and the old ones elsewhere
pub record IsOver (new written old : CsrValues) : Type 0 where
  pub mstatus : new.mstatus ≡ written.mstatus
  pub medeleg : new.medeleg ≡ written.medeleg
  pub satp : new.satp ≡ written.satp
  pub hart : new.hart ≡ old.hart
  pub size : length new.lazy ≡ 10
  pub written_size : length written.lazy ≡ 10
  pub lazy : (register : LazyRegister) → lazy_value new register ≡ or_old (lazy_value written register) (lazy_value old register)

over_bare : (csrs : CsrValues) → length csrs.lazy ≡ 10 → IsOver csrs (bare csrs) csrs
over_bare csrs size = record {
  mstatus = refl;
  medeleg = refl;
  satp = refl;
  hart = refl;
  size = size;
  written_size = refl;
  lazy = λ register. sym (ap (λ (o : Option ℕ). or_old o (lazy_value csrs register)) (none_at_first csrs.hart csrs.mstatus csrs.medeleg csrs.satp register));
}

over_lazy : (new written old : CsrValues) (register : LazyRegister) (n : ℕ) → IsOver new written old → IsOver (with_lazy register n new) (with_lazy register n written) old
over_lazy new written old register n over = record {
  mstatus = over.mstatus;
  medeleg = over.medeleg;
  satp = over.satp;
  hart = over.hart;
  size = length-set new.lazy (slot_of register) (Some n) ∙ over.size;
  written_size = length-set written.lazy (slot_of register) (Some n) ∙ over.written_size;
  lazy = λ other.
      lazy_after new register other n over.size ∙ pick (nat_eq (slot_of register) (slot_of other)) (lazy_value new other) (lazy_value written other) (lazy_value old other) (over.lazy other)
      ∙ sym (ap (λ (o : Option ℕ). or_old o (lazy_value old other)) (lazy_after written register other n over.written_size));
}
  where
    pick : (b : Bool) (x y z : Option ℕ) → x ≡ or_old y z → (if b then Some n else x) ≡ or_old (if b then Some n else y) z
    pick true x y z e = refl
    pick false x y z e = e

-- other values of the fixed ones
over_fixed : (csrs : CsrValues) (mstatus medeleg satp : ℕ) → length csrs.lazy ≡ 10
    → IsOver (record csrs { mstatus = mstatus; medeleg = medeleg; satp = satp }) (record (bare csrs) { mstatus = mstatus; medeleg = medeleg; satp = satp }) csrs
over_fixed csrs mstatus medeleg satp size = let b = over_bare csrs size in record {
  mstatus = refl;
  medeleg = refl;
  satp = refl;
  hart = refl;
  size = size;
  written_size = refl;
  lazy = b.lazy;
}

over_value : (csrs : CsrValues) (register : Register) (n : ℕ) → length csrs.lazy ≡ 10 → IsOver (with_value register n csrs) (with_value register n (bare csrs)) csrs
over_value csrs Sstatus n size = over_fixed csrs _ csrs.medeleg csrs.satp size
over_value csrs Satp n size = over_fixed csrs csrs.mstatus csrs.medeleg n size
over_value csrs Mstatus n size = over_fixed csrs n csrs.medeleg csrs.satp size
over_value csrs Medeleg n size = over_fixed csrs csrs.mstatus n csrs.satp size
over_value csrs Mhartid n size = over_bare csrs size
over_value csrs (Lazy register) n size = over_lazy csrs (bare csrs) csrs register n (over_bare csrs size)

over_trap : (csrs : CsrValues) (to from : Priv) (cause pc value : ℕ) → length csrs.lazy ≡ 10 → IsOver (trapped_to to csrs from cause pc value) (trapped_to to (bare csrs) from cause pc value) csrs
over_trap csrs S from cause pc value size =
    let status : ℕ = trapped_to_supervisor from csrs.mstatus in
    over_lazy _ _ csrs Sepc pc (over_lazy _ _ csrs Scause cause (over_lazy _ _ csrs Stval value (over_fixed csrs status csrs.medeleg csrs.satp size)))
over_trap csrs M from cause pc value size =
    let status : ℕ = trapped_to_machine from csrs.mstatus in
    over_lazy _ _ csrs Mepc pc (over_lazy _ _ csrs Mcause cause (over_lazy _ _ csrs Mtval value (over_fixed csrs status csrs.medeleg csrs.satp size)))
over_trap csrs U from cause pc value size =
    let status : ℕ = trapped_to_machine from csrs.mstatus in
    over_lazy _ _ csrs Mepc pc (over_lazy _ _ csrs Mcause cause (over_lazy _ _ csrs Mtval value (over_fixed csrs status csrs.medeleg csrs.satp size)))

pub over_control : (from : Priv) (pc : ℕ) (c : Control) (csrs : CsrValues) → length csrs.lazy ≡ 10 → IsOver (csrs_after from pc c csrs) (csrs_after from pc c (bare csrs)) csrs
over_control from pc Stay csrs size = over_bare csrs size
over_control from pc (Write register value) csrs size = over_value csrs register value size
over_control from pc (Trap cause value) csrs size = over_trap csrs (takes_trap csrs.medeleg from cause) from cause pc value size
over_control from pc Mret csrs size = over_fixed csrs _ csrs.medeleg csrs.satp size
over_control from pc Sret csrs size = over_fixed csrs _ csrs.medeleg csrs.satp size

-- the same by addresses
pub over_at : (new written old : CsrValues) (addr : ℕ) → IsOver new written old → lazy_value_at new addr ≡ or_old (lazy_value_at written addr) (lazy_value_at old addr)
over_at new written old addr over = go (register_at addr)
  where
    go : (o : Option Register) → known_in new o ≡ or_old (known_in written o) (known_in old o)
    go None = refl
    go (Some Sstatus) = refl
    go (Some Satp) = refl
    go (Some Mstatus) = refl
    go (Some Medeleg) = refl
    go (Some Mhartid) = refl
    go (Some (Lazy register)) = over.lazy register
