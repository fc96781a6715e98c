-- The table of the modelled registers: names, addresses and legal values.
use Rattle.std.specs.Prelude.{ℕ, ◌+◌, ◌-◌, ◌/◌, ◌%◌, ◌^◌, Bool, true, false, not, ◌&&◌, ◌||◌, ◌==◌, nat_le, nat_lt, bit_and, List, [], ◌∷◌, Option, Some, None, find, map, codes}
use Rattle.rv_csr.specs.declared.cause.Cause.TheVariants.{CallFromM}
use Rattle.rv_csr.specs.declared.table.Register.{Register}
use Rattle.rv_csr.specs.declared.table.Register.TheVariants.{Sstatus, Satp, Mstatus, Medeleg, Mhartid, Lazy}
use Rattle.rv_csr.specs.declared.table.LazyRegister.{LazyRegister}
use Rattle.rv_csr.specs.declared.table.LazyRegister.TheVariants.{Stvec, Sscratch, Sepc, Scause, Stval, Mtvec, Mscratch, Mepc, Mcause, Mtval}
use Rattle.rv_csr.specs.declared.table.Values.{Values}
use Rattle.rv_csr.specs.declared.table.Values.TheVariants.{All, MultiplesOfFour, SubsetsOf, StatusWithin, RootTables, CausesToS, Causes, Nothing}
use Rattle.rv_csr.specs.Causes.{is_cause, number_of}
use Rattle.rv_csr.specs.Rows.{TableRow}

abbrev pub row : List ℕ → ℕ → Values → TableRow
row name address values = record { name = name; address = address; values = values }

-- what sstatus shows of mstatus: SIE, SPIE, SPP, SUM and MXR (Privileged, 4.1.1)
abbrev pub sstatus_mask : ℕ
sstatus_mask = 0x000c_0122

-- name, address and legal values of each register
abbrev pub row_of : Register → TableRow
-- Privileged, 4.1.1
row_of Sstatus = row (codes "sstatus") 0x100 (SubsetsOf sstatus_mask)
-- Privileged, 4.1.2
row_of (Lazy Stvec) = row (codes "stvec") 0x105 MultiplesOfFour
-- Privileged, 4.1.6
row_of (Lazy Sscratch) = row (codes "sscratch") 0x140 All
-- Privileged, 4.1.7
row_of (Lazy Sepc) = row (codes "sepc") 0x141 MultiplesOfFour
-- Privileged, 4.1.8
row_of (Lazy Scause) = row (codes "scause") 0x142 CausesToS
-- Privileged, 4.1.9
row_of (Lazy Stval) = row (codes "stval") 0x143 All
-- Privileged, 4.1.11
row_of Satp = row (codes "satp") 0x180 RootTables
-- Privileged, 3.1.6
row_of Mstatus = row (codes "mstatus") 0x300 (StatusWithin 0x005e_19aa)
-- Privileged, 3.1.8
row_of Medeleg = row (codes "medeleg") 0x302 (SubsetsOf 0x0000_b3ff)
-- Privileged, 3.1.7
row_of (Lazy Mtvec) = row (codes "mtvec") 0x305 MultiplesOfFour
-- Privileged, 3.1.13
row_of (Lazy Mscratch) = row (codes "mscratch") 0x340 All
-- Privileged, 3.1.14
row_of (Lazy Mepc) = row (codes "mepc") 0x341 MultiplesOfFour
-- Privileged, 3.1.15
row_of (Lazy Mcause) = row (codes "mcause") 0x342 Causes
-- Privileged, 3.1.16
row_of (Lazy Mtval) = row (codes "mtval") 0x343 All
-- Privileged, 3.1.5
row_of Mhartid = row (codes "mhartid") 0xf14 Nothing

-- which words are legal
abbrev pub allows : Values → ℕ → Bool
allows All n = true
allows MultiplesOfFour n = n % 4 == 0
allows (SubsetsOf mask) n = bit_and n mask == n
-- MPP, bits 12:11, is a privilege: 0, 1 or 3 (Privileged, 1.2)
allows (StatusWithin mask) n = bit_and n mask == n && not (n / 2 ^ 11 % 4 == 2)
-- 0, or MODE 1, Sv32, with ASID 0 and the root table's page number below 2 ^ 20 (Privileged, 4.1.11)
allows RootTables n = n == 0 || (nat_le 0x8000_0000 n && nat_lt n (0x8000_0000 + 2 ^ 20))
-- an ECALL from M is never taken to S (Privileged, 3.1.8)
allows CausesToS n = is_cause n && not (n == number_of CallFromM)
allows Causes n = is_cause n
-- read-only (Privileged, 2.1)
allows Nothing n = false

-- the registers in the order of their addresses
abbrev pub registers : List Register
registers = Sstatus ∷ Lazy Stvec ∷ Lazy Sscratch ∷ Lazy Sepc ∷ Lazy Scause ∷ Lazy Stval ∷ Satp ∷ Mstatus ∷ Medeleg ∷ Lazy Mtvec ∷ Lazy Mscratch ∷ Lazy Mepc ∷ Lazy Mcause ∷ Lazy Mtval ∷ Mhartid ∷ []

-- the lazy ones in the same order
abbrev pub lazy_registers : List LazyRegister
lazy_registers = Stvec ∷ Sscratch ∷ Sepc ∷ Scause ∷ Stval ∷ Mtvec ∷ Mscratch ∷ Mepc ∷ Mcause ∷ Mtval ∷ []

abbrev pub address_of : Register → ℕ
address_of register = (row_of register).address

-- the addresses of the lazy ones
abbrev pub lazy_csrs : List ℕ
lazy_csrs = map (λ register. address_of (Lazy register)) lazy_registers

-- the keys of a hart's places: below this one stand those of its registers, and from it on those of CSRs, by their addresses
abbrev pub first_csr_key : ℕ
first_csr_key = 0x1000

-- the key of the CSR at an address
abbrev pub csr_key : ℕ → ℕ
csr_key address = first_csr_key + address

-- the address of a CSR's key
abbrev pub csr_address : ℕ → ℕ
csr_address key = key - first_csr_key

-- the value is legal for the register
abbrev pub is_legal : Register → ℕ → Bool
is_legal register n = allows (row_of register).values n

-- the register at an address
abbrev pub register_at : ℕ → Option Register
register_at address = find (λ register. address_of register == address) registers

abbrev pub is_legal_for : Option Register → ℕ → Bool
is_legal_for None n = false
is_legal_for (Some register) n = is_legal register n

-- the address is that of a register, and the value is legal for it
abbrev pub is_legal_at : ℕ → ℕ → Bool
is_legal_at address n = is_legal_for (register_at address) n
