-- What a step is given before it asks for anything.
use Rattle.std.specs.Prelude.{ℕ, Bool}
use Rattle.rv_csr.specs.declared.privilege.Priv.{Priv}
use Rattle.rv_csr.specs.State.{CsrValues, first_values}

pub record Fixed : Type 0 where
  pub pc : ℕ
  pub privilege : Priv
  pub mstatus : ℕ
  pub medeleg : ℕ
  pub satp : ℕ
  -- mhartid
  pub number : ℕ
  -- whether the word of memory with this number, its address divided by 4, is there
  pub ram : ℕ → Bool

-- the fixed parts of a hart at a pc in a privilege with these CSRs, where this RAM is
abbrev pub fixed_by : ℕ → Priv → CsrValues → (ℕ → Bool) → Fixed
fixed_by pc privilege csrs ram = record {
  pc = pc;
  privilege = privilege;
  mstatus = csrs.mstatus;
  medeleg = csrs.medeleg;
  satp = csrs.satp;
  number = csrs.hart;
  ram = ram;
}

-- the control and status registers of these fixed parts, of which no lazy one is known
abbrev pub fixed_csrs : Fixed → CsrValues
fixed_csrs f = first_values f.number f.mstatus f.medeleg f.satp
