-- What a trap and the returns from traps do to the registers.
use Rattle.std.specs.Prelude.{ℕ, ◌/◌, ◌%◌, ◌^◌, Bool, not, ◌&&◌, ◌==◌, if◌then◌else◌}
use Rattle.rv_csr.specs.declared.privilege.Priv.{Priv}
use Rattle.rv_csr.specs.declared.privilege.Priv.TheVariants.{S, M}
use Rattle.rv_csr.specs.declared.table.LazyRegister.{LazyRegister}
use Rattle.rv_csr.specs.declared.table.LazyRegister.TheVariants.{Stvec, Sepc, Scause, Stval, Mtvec, Mepc, Mcause, Mtval}
use Rattle.rv_csr.specs.Privilege.{is_machine}
use Rattle.rv_csr.specs.Status.{status_after_mret, status_after_sret, trapped_to_machine, trapped_to_supervisor}
use Rattle.rv_csr.specs.State.{CsrValues, with_lazy}

-- the cause's bit in medeleg is 1, and the trap does not come from M (Privileged, 3.1.8)
abbrev pub is_delegated : ℕ → Priv → ℕ → Bool
is_delegated medeleg from cause = not (is_machine from) && medeleg / 2 ^ cause % 2 == 1

-- the privilege that takes a trap
abbrev pub takes_trap : ℕ → Priv → ℕ → Priv
takes_trap medeleg from cause = if is_delegated medeleg from cause then S else M

-- where a trap goes (Privileged, 3.1.7 and 4.1.2)
abbrev pub vector_register : Priv → LazyRegister
vector_register S = Stvec
vector_register _ = Mtvec

-- a trap to S sets sepc, scause and stval, and one to M mepc, mcause and mtval (Privileged, 4.1.7 to 4.1.9 and 3.1.14 to 3.1.16)
abbrev pub trapped_to : Priv → CsrValues → Priv → ℕ → ℕ → ℕ → CsrValues
trapped_to S csrs from cause pc value =
    with_lazy Sepc pc (with_lazy Scause cause (with_lazy Stval value (record csrs { mstatus = trapped_to_supervisor from csrs.mstatus })))
trapped_to _ csrs from cause pc value =
    with_lazy Mepc pc (with_lazy Mcause cause (with_lazy Mtval value (record csrs { mstatus = trapped_to_machine from csrs.mstatus })))

-- the values after a trap from a privilege, at a pc, with a trap value
abbrev pub trapped : CsrValues → Priv → ℕ → ℕ → ℕ → CsrValues
trapped csrs from cause pc value = trapped_to (takes_trap csrs.medeleg from cause) csrs from cause pc value

-- MRET and SRET change mstatus alone (Privileged, 3.3.2)
abbrev pub after_mret : CsrValues → CsrValues
after_mret csrs = record csrs { mstatus = status_after_mret csrs.mstatus }

abbrev pub after_sret : CsrValues → CsrValues
after_sret csrs = record csrs { mstatus = status_after_sret csrs.mstatus }
