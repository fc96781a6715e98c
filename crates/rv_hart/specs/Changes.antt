-- What a step does to its hart.
use Rattle.std.specs.Prelude.{◌≡◌, ℕ, ◌%◌, ◌<◌, true, nat_eq, if◌then◌else◌, Option, Some, None, IsTrue, IsSome}
use Rattle.std.specs.Option.{ForSome}
use Rattle.rv_csr.specs.declared.privilege.Priv.{Priv}
use Rattle.rv_csr.specs.declared.table.LazyRegister.TheVariants.{Mepc, Sepc}
use Rattle.rv_csr.specs.Causes.{is_cause}
use Rattle.rv_csr.specs.Table.{csr_address, is_legal}
use Rattle.rv_csr.specs.Status.{mpp_of, spp_of}
use Rattle.rv_csr.specs.State.{CsrValues, lazy_value, lazy_value_at, with_value}
use Rattle.rv_csr.specs.Traps.{after_mret, after_sret, takes_trap, trapped, vector_register}
use Rattle.rv_hart.specs.declared.record.Change.{Change}
use Rattle.rv_hart.specs.declared.record.Control.{Control}
use Rattle.rv_hart.specs.declared.record.Control.TheVariants.{Stay, Write, Trap, Mret, Sret}
use Rattle.rv_hart.specs.declared.record.Outcome.{Outcome}
use Rattle.rv_hart.specs.declared.record.Outcome.TheVariants.{Retired, Trap as Trapped}
use Rattle.rv_hart.specs.Fixed.{Fixed, fixed_csrs}

-- the control and status registers after a step in a privilege at a pc
abbrev pub csrs_after : Priv → ℕ → Control → CsrValues → CsrValues
csrs_after from pc Stay csrs = csrs
csrs_after from pc (Write register value) csrs = with_value register value csrs
csrs_after from pc (Trap cause value) csrs = trapped csrs from cause pc value
csrs_after from pc Mret csrs = after_mret csrs
csrs_after from pc Sret csrs = after_sret csrs

-- the privilege after a step, by mstatus and medeleg before it (Privileged, 3.1.6.1 and 3.1.8)
abbrev pub privilege_after : Priv → ℕ → ℕ → Control → Priv
privilege_after from mstatus medeleg (Trap cause value) = takes_trap medeleg from cause
privilege_after from mstatus medeleg Mret = mpp_of mstatus
privilege_after from mstatus medeleg Sret = spp_of mstatus
privilege_after from mstatus medeleg _ = from

-- how a step ended
abbrev pub outcome_of : Fixed → Control → Outcome
outcome_of f (Trap cause value) = Trapped cause value (takes_trap f.medeleg f.privilege cause)
outcome_of f _ = Retired

-- the fixed parts after a step
abbrev pub fixed_after : Fixed → Change → Fixed
fixed_after f c =
    let csrs = csrs_after f.privilege f.pc c.control (fixed_csrs f) in
    record f {
      pc = c.next_pc;
      privilege = privilege_after f.privilege f.mstatus f.medeleg c.control;
      mstatus = csrs.mstatus;
      medeleg = csrs.medeleg;
      satp = csrs.satp;
    }

-- the value that a write of a register, or else another one, gives to a key
abbrev pub given_by : Option (ℕ × ℕ) → Option ℕ → ℕ → Option ℕ
given_by None other key = other
given_by (Some w) other key = if nat_eq w.0 key then Some w.1 else other

-- the values that a step gives to registers and lazy CSRs, by the keys of their places: a register's number or the key of a CSR's address
abbrev pub writes_of : Fixed → Change → ℕ → Option ℕ
writes_of f c key = given_by c.rd (lazy_value_at (csrs_after f.privilege f.pc c.control (fixed_csrs f)) (csr_address key)) key

-- only x1 to x31 are written
abbrev pub IsSoundWrite : Option (ℕ × ℕ) → Type 0
IsSoundWrite rd = ForSome rd (λ w. (0 < w.0) × (w.0 < 32))

-- a legal value is written; a trap has a cause and a vector, and a return an address
abbrev pub IsSoundControl : Priv → CsrValues → Control → Type 0
IsSoundControl from csrs Stay = Unit {0}
IsSoundControl from csrs (Write register value) = is_legal register value ≡ true
IsSoundControl from csrs (Trap cause value) = IsTrue (is_cause cause) × IsSome (lazy_value csrs (vector_register (takes_trap csrs.medeleg from cause)))
IsSoundControl from csrs Mret = IsSome (lazy_value csrs Mepc)
IsSoundControl from csrs Sret = IsSome (lazy_value csrs Sepc)

-- the pc stays a multiple of 4, and x0 is never written
pub record IsSoundChange (from : Priv) (csrs : CsrValues) (c : Change) : Type 0 where
  pub pc : c.next_pc % 4 ≡ 0
  pub rd : IsSoundWrite c.rd
  pub control : IsSoundControl from csrs c.control
