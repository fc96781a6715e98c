-- What word an instruction has.
use Rattle.std.specs.Prelude.{◌≡◌, ℕ, ◌+◌, ◌-◌, ◌*◌, ◌/◌, ◌%◌, ◌^◌, ◌<◌, ◌⊎◌, nat_lt, if◌then◌else◌}
use Rattle.rv_isa.specs.declared.instruction.Instr.{Instr}
use Rattle.rv_isa.specs.declared.parts.Parts.{Parts}
use Rattle.rv_isa.specs.declared.table.Row.{Row}
use Rattle.rv_isa.specs.declared.table.Row.TheVariants.{R, I, Shift, S, B, U, J, Csr, CsrImmediate, FenceSets, AddressFence, Fixed, DefinedIllegal}
use Rattle.rv_isa.specs.Table.{row_of}

-- bits `high` down to `low` of a number, which the manuals write n[high:low]
abbrev pub bits : ℕ → ℕ → ℕ → ℕ
bits n high low = n / 2 ^ low % 2 ^ (high + 1 - low)

-- a word cut where the R format cuts it, from bit 31 down (Unprivileged, 2.2)
abbrev pub parts : (funct7 rs2 rs1 funct3 rd opcode : ℕ) → Parts
parts funct7 rs2 rs1 funct3 rd opcode = record { funct7 = funct7; rs2 = rs2; rs1 = rs1; funct3 = funct3; rd = rd; opcode = opcode }

abbrev pub cut_of : ℕ → Parts
cut_of w = parts (bits w 31 25) (bits w 24 20) (bits w 19 15) (bits w 14 12) (bits w 11 7) (bits w 6 0)

-- the word that has these parts
abbrev pub word_of_parts : Parts → ℕ
word_of_parts p = p.funct7 * 2 ^ 25 + p.rs2 * 2 ^ 20 + p.rs1 * 2 ^ 15 + p.funct3 * 2 ^ 12 + p.rd * 2 ^ 7 + p.opcode

-- what stands where in each format, from bit 31 down
abbrev pub parts_of : Row → Instr → Parts
-- Unprivileged, 2.2 and 2.3
parts_of (R opcode funct3 funct7) i = parts funct7 i.rs2 i.rs1 funct3 i.rd opcode
parts_of (I opcode funct3) i = parts (bits i.imm 11 5) (bits i.imm 4 0) i.rs1 funct3 i.rd opcode
parts_of (S opcode funct3) i = parts (bits i.imm 11 5) i.rs2 i.rs1 funct3 (bits i.imm 4 0) opcode
parts_of (B opcode funct3) i = parts (bits i.imm 12 12 * 2 ^ 6 + bits i.imm 10 5) i.rs2 i.rs1 funct3 (bits i.imm 4 1 * 2 + bits i.imm 11 11) opcode
parts_of (U opcode) i = parts (bits i.imm 31 25) (bits i.imm 24 20) (bits i.imm 19 15) (bits i.imm 14 12) i.rd opcode
parts_of (J opcode) i = parts (bits i.imm 20 20 * 2 ^ 6 + bits i.imm 10 5) (bits i.imm 4 1 * 2 + bits i.imm 11 11) (bits i.imm 19 15) (bits i.imm 14 12) i.rd opcode
-- Unprivileged, 2.4.1: the shift amount stands at rs2
parts_of (Shift opcode funct3 funct7) i = parts funct7 i.imm i.rs1 funct3 i.rd opcode
-- Unprivileged, Zicsr, CSR Instructions
parts_of (Csr opcode funct3) i = parts (bits i.csr 11 5) (bits i.csr 4 0) i.rs1 funct3 i.rd opcode
parts_of (CsrImmediate opcode funct3) i = parts (bits i.csr 11 5) (bits i.csr 4 0) i.imm funct3 i.rd opcode
-- Unprivileged, 2.7: fm, rs1 and rd are 0, and the immediate is the predecessor and the successor set
parts_of (FenceSets opcode funct3) i = parts (bits i.imm 7 5) (bits i.imm 4 0) 0 funct3 0 opcode
-- Privileged, Supervisor Memory-Management Fence Instruction: rd is 0
parts_of (AddressFence opcode funct3 funct7) i = parts funct7 i.rs2 i.rs1 funct3 0 opcode
-- Unprivileged, 2.8; Privileged, 3.3.2
parts_of (Fixed word) i = cut_of word
-- Unprivileged, 1.5: the immediate is the whole word
parts_of DefinedIllegal i = cut_of i.imm

-- the word of an instruction
abbrev pub word_of : Instr → ℕ
word_of i = word_of_parts (parts_of (row_of i.op) i)

-- a number of so many bits as a word, by copies of its highest bit (Unprivileged, 2.3)
abbrev pub sign_extended : ℕ → ℕ → ℕ
sign_extended width n = if nat_lt n (2 ^ (width - 1)) then n else n + (2 ^ 32 - 2 ^ width)

-- a word that extends its own low `width` bits by their sign
abbrev pub IsSigned : ℕ → ℕ → Type 0
IsSigned width n = n ≡ sign_extended width (n % 2 ^ width)

-- the fields fit the format, and those that it lacks are 0
abbrev pub FitsRow : Row → Instr → Type 0
FitsRow (R _ _ _) i = (i.rd < 32) × (i.rs1 < 32) × (i.rs2 < 32) × (i.imm ≡ 0) × (i.csr ≡ 0)
FitsRow (I _ _) i = (i.rd < 32) × (i.rs1 < 32) × (i.rs2 ≡ 0) × IsSigned 12 i.imm × (i.csr ≡ 0)
FitsRow (S _ _) i = (i.rd ≡ 0) × (i.rs1 < 32) × (i.rs2 < 32) × IsSigned 12 i.imm × (i.csr ≡ 0)
FitsRow (B _ _) i = (i.rd ≡ 0) × (i.rs1 < 32) × (i.rs2 < 32) × IsSigned 13 i.imm × (i.imm % 2 ≡ 0) × (i.csr ≡ 0)
FitsRow (U _) i = (i.rd < 32) × (i.rs1 ≡ 0) × (i.rs2 ≡ 0) × (i.imm < 2 ^ 32) × (i.imm % 2 ^ 12 ≡ 0) × (i.csr ≡ 0)
FitsRow (J _) i = (i.rd < 32) × (i.rs1 ≡ 0) × (i.rs2 ≡ 0) × IsSigned 21 i.imm × (i.imm % 2 ≡ 0) × (i.csr ≡ 0)
FitsRow (Shift _ _ _) i = (i.rd < 32) × (i.rs1 < 32) × (i.rs2 ≡ 0) × (i.imm < 32) × (i.csr ≡ 0)
FitsRow (Csr _ _) i = (i.rd < 32) × (i.rs1 < 32) × (i.rs2 ≡ 0) × (i.imm ≡ 0) × (i.csr < 2 ^ 12)
FitsRow (CsrImmediate _ _) i = (i.rd < 32) × (i.rs1 ≡ 0) × (i.rs2 ≡ 0) × (i.imm < 32) × (i.csr < 2 ^ 12)
FitsRow (FenceSets _ _) i = (i.rd ≡ 0) × (i.rs1 ≡ 0) × (i.rs2 ≡ 0) × (i.imm < 2 ^ 8) × (i.csr ≡ 0)
FitsRow (AddressFence _ _ _) i = (i.rd ≡ 0) × (i.rs1 < 32) × (i.rs2 < 32) × (i.imm ≡ 0) × (i.csr ≡ 0)
FitsRow (Fixed _) i = (i.rd ≡ 0) × (i.rs1 ≡ 0) × (i.rs2 ≡ 0) × (i.imm ≡ 0) × (i.csr ≡ 0)
FitsRow DefinedIllegal i = (i.rd ≡ 0) × (i.rs1 ≡ 0) × (i.rs2 ≡ 0) × ((i.imm ≡ 0) ⊎ (i.imm ≡ 0xffff_ffff)) × (i.csr ≡ 0)

-- the fields fit the operation's format
abbrev pub Fits : Instr → Type 0
Fits i = FitsRow (row_of i.op) i

-- the instruction has this word
pub record IsEncoded (i : Instr) (w : ℕ) : Type 0 where
  pub fits : Fits i
  pub word : w ≡ word_of i

-- register numbers have 5 bits, CSR addresses 12 and immediates 32
pub record IsInRange (i : Instr) : Type 0 where
  pub rd : i.rd < 32
  pub rs1 : i.rs1 < 32
  pub rs2 : i.rs2 < 32
  pub imm : i.imm < 2 ^ 32
  pub csr : i.csr < 2 ^ 12
