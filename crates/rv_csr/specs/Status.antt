-- The fields of mstatus (Privileged, 3.1.6). A word is a number below 2 ^ 32.
use Rattle.std.specs.Prelude.{◌≡◌, ℕ, ◌-◌, ◌*◌, ◌/◌, ◌%◌, ◌^◌, Bool, true, false, ◌==◌, if◌then◌else◌, bit_and, bit_or}
use Rattle.rv_csr.specs.declared.privilege.Priv.{Priv}
use Rattle.rv_csr.specs.declared.privilege.Priv.TheVariants.{U, S, M}
use Rattle.rv_csr.specs.declared.status.Flag.{Flag}
use Rattle.rv_csr.specs.declared.status.Flag.TheVariants.{Sie, Mie, Spie, Mpie, Spp, Mprv, Sum, Mxr, Tvm, Tsr}
use Rattle.rv_csr.specs.declared.table.Register.TheVariants.{Mstatus}
use Rattle.rv_csr.specs.Privilege.{level_of, privilege_at, is_supervisor}
use Rattle.rv_csr.specs.Table.{is_legal, sstatus_mask}

-- the bit of each flag
abbrev pub bit_of : Flag → ℕ
-- interrupts enabled in S and M, now and before the trap (Privileged, 3.1.6.1)
bit_of Sie = 1
bit_of Mie = 3
bit_of Spie = 5
bit_of Mpie = 7
-- whether the privilege before a trap to S was S (Privileged, 3.1.6.1)
bit_of Spp = 8
-- data accesses with the privilege MPP (Privileged, 3.1.6.3)
bit_of Mprv = 17
-- S may access pages of U (Privileged, 3.1.6.3)
bit_of Sum = 18
-- loads from executable pages (Privileged, 3.1.6.3)
bit_of Mxr = 19
-- satp and SFENCE.VMA trap in S (Privileged, 3.1.6.5)
bit_of Tvm = 20
-- SRET traps in S (Privileged, 3.1.6.5)
bit_of Tsr = 22

abbrev pub is_set : Flag → ℕ → Bool
is_set flag status = status / 2 ^ bit_of flag % 2 == 1

-- the privilege before a trap to M, bits 12:11 (Privileged, 3.1.6.1)
abbrev pub mpp_of : ℕ → Priv
mpp_of status = privilege_at (status / 2 ^ 11 % 4)

-- the privilege before a trap to S
abbrev pub spp_of : ℕ → Priv
spp_of status = if is_set Spp status then S else U

-- the bits of a mask replaced
abbrev pub replaced : ℕ → ℕ → ℕ → ℕ
replaced mask old bits = bit_or (bit_and old (2 ^ 32 - 1 - mask)) bits

-- the flag alone, as on or off
abbrev pub flag_bits : Flag → Bool → ℕ
flag_bits flag on = if on then 2 ^ bit_of flag else 0

abbrev pub with_flag : Flag → Bool → ℕ → ℕ
with_flag flag on status = replaced (2 ^ bit_of flag) status (flag_bits flag on)

abbrev pub with_mpp : Priv → ℕ → ℕ
with_mpp p status = replaced (3 * 2 ^ 11) status (level_of p * 2 ^ 11)

-- sstatus is a view of mstatus (Privileged, 4.1.1)
abbrev pub sstatus_of : ℕ → ℕ
sstatus_of status = bit_and status sstatus_mask

abbrev pub with_sstatus : ℕ → ℕ → ℕ
with_sstatus value status = replaced sstatus_mask status value

-- a trap to M: MPIE takes MIE, MIE becomes 0, MPP the privilege before (Privileged, 3.1.6.1)
abbrev pub trapped_to_machine : Priv → ℕ → ℕ
trapped_to_machine from status = with_mpp from (with_flag Mie false (with_flag Mpie (is_set Mie status) status))

-- a trap to S: SPIE takes SIE, SIE becomes 0, SPP whether the privilege before is S (Privileged, 3.1.6.1)
abbrev pub trapped_to_supervisor : Priv → ℕ → ℕ
trapped_to_supervisor from status = with_flag Spp (is_supervisor from) (with_flag Sie false (with_flag Spie (is_set Sie status) status))

-- data accesses no longer have the privilege MPP, except in M (Privileged, 3.1.6.3)
abbrev pub left_to : Priv → ℕ → ℕ
left_to M status = status
left_to _ status = with_flag Mprv false status

-- MRET: MIE takes MPIE, MPIE becomes 1, MPP becomes U, and MPRV 0 below M (Privileged, 3.1.6.1)
abbrev pub status_after_mret : ℕ → ℕ
status_after_mret status = left_to (mpp_of status) (with_mpp U (with_flag Mpie true (with_flag Mie (is_set Mpie status) status)))

-- SRET: SIE takes SPIE, SPIE becomes 1, SPP becomes U, and MPRV 0 (Privileged, 3.1.6.1)
abbrev pub status_after_sret : ℕ → ℕ
status_after_sret status = left_to (spp_of status) (with_flag Spp false (with_flag Spie true (with_flag Sie (is_set Spie status) status)))

-- the privilege of a data access (Privileged, 3.1.6.3)
abbrev pub effective_privilege : ℕ → Priv → Priv
effective_privilege status p = if is_set Mprv status then mpp_of status else p

-- a legal value of mstatus
abbrev pub IsLegalStatus : ℕ → Type 0
IsLegalStatus status = is_legal Mstatus status ≡ true
