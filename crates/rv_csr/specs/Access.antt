-- What an instruction's access to a register is, what it answers, and what it changes.
use Rattle.std.specs.Prelude.{ℕ, ◌/◌, ◌%◌, ◌^◌, Bool, true, false, ◌&&◌, ◌||◌, ◌==◌, nat_lt, if◌then◌else◌, Option, Some, None}
use Rattle.rv_csr.specs.declared.privilege.Priv.{Priv}
use Rattle.rv_csr.specs.declared.table.Register.{Register}
use Rattle.rv_csr.specs.declared.table.Register.TheVariants.{Satp}
use Rattle.rv_csr.specs.declared.status.Flag.TheVariants.{Tvm}
use Rattle.rv_csr.specs.declared.access.CsrAccess.{CsrAccess}
use Rattle.rv_csr.specs.declared.access.CsrAccess.TheVariants.{Granted, Denied, Outside}
use Rattle.rv_csr.specs.declared.access.Got.{Got}
use Rattle.rv_csr.specs.declared.access.Got.TheVariants.{Value, Denied as ReadDenied, Untouched, Outside as ReadOutside}
use Rattle.rv_csr.specs.declared.access.Wrote.{Wrote}
use Rattle.rv_csr.specs.declared.access.Wrote.TheVariants.{Done, Denied as WriteDenied, Outside as WriteOutside}
use Rattle.rv_csr.specs.Privilege.{level_of, is_supervisor}
use Rattle.rv_csr.specs.Table.{address_of, is_legal, register_at}
use Rattle.rv_csr.specs.Status.{is_set}
use Rattle.rv_csr.specs.State.{CsrValues, value_of, with_value}

-- the lowest privilege that has access, address bits 9:8 (Privileged, 2.1)
abbrev pub lowest_level : Register → ℕ
lowest_level register = address_of register / 2 ^ 8 % 4

-- address bits 11:10 are 3 (Privileged, 2.1)
abbrev pub is_read_only : Register → Bool
is_read_only register = address_of register / 2 ^ 10 % 4 == 3

abbrev pub is_satp : Register → Bool
is_satp Satp = true
is_satp _ = false

-- the privilege is too low (Privileged, 2.1), or it is satp in S while TVM is 1 (Privileged, 3.1.6.5)
abbrev pub is_denied : ℕ → Register → Priv → Bool
is_denied status register p = nat_lt (level_of p) (lowest_level register) || (is_satp register && is_supervisor p && is_set Tvm status)

-- an access to a register, one that writes or one that only reads, in a privilege
abbrev pub access_to : ℕ → Priv → Bool → Option Register → CsrAccess
access_to status p writes None = Outside
access_to status p writes (Some register) =
    if is_denied status register p || (writes && is_read_only register) then Denied else Granted register

-- an access at an address, where mstatus is `status`
abbrev pub access_of : ℕ → ℕ → Priv → Bool → CsrAccess
access_of status address p writes = access_to status p writes (register_at address)

abbrev pub got : Option ℕ → Got
got (Some n) = Value n
got None = Untouched

abbrev pub read_by : CsrAccess → CsrValues → Got
read_by Outside csrs = ReadOutside
read_by Denied csrs = ReadDenied
read_by (Granted register) csrs = got (value_of csrs register)

-- what a read at an address answers in a privilege
abbrev pub read_of : CsrValues → ℕ → Priv → Got
read_of csrs address p = read_by (access_of csrs.mstatus address p false) csrs

abbrev pub write_by : CsrAccess → ℕ → CsrValues → Wrote × CsrValues
write_by Outside n csrs = (WriteOutside, csrs)
write_by Denied n csrs = (WriteDenied, csrs)
write_by (Granted register) n csrs =
    if is_legal register n then (Done, with_value register n csrs) else (WriteOutside, csrs)

-- what a write at an address answers in a privilege, and the values after it
abbrev pub write_of : CsrValues → ℕ → Priv → ℕ → Wrote × CsrValues
write_of csrs address p n = write_by (access_of csrs.mstatus address p true) n csrs
