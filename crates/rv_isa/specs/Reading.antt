-- How a word is read. That this gives exactly the instruction that has the word is a law (Laws).
use Rattle.std.specs.Prelude.{ℕ, ◌+◌, ◌*◌, ◌^◌, ◌<◌, Bool, ◌&&◌, ◌||◌, nat_eq, nat_lt, if◌then◌else◌, List, Option, None, find}
use Rattle.std.specs.Option.{option_map}
use Rattle.rv_isa.specs.declared.instruction.Instr.{Instr}
use Rattle.rv_isa.specs.declared.operation.Op.{Op}
use Rattle.rv_isa.specs.declared.operation.TheConstants.{OPS}
use Rattle.rv_isa.specs.declared.parts.Parts.{Parts}
use Rattle.rv_isa.specs.declared.table.Row.{Row}
use Rattle.rv_isa.specs.declared.table.Row.TheVariants.{R, I, Shift, S, B, U, J, Csr, CsrImmediate, FenceSets, AddressFence, Fixed, DefinedIllegal}
use Rattle.rv_isa.specs.Encoding.{bits, cut_of, word_of_parts, sign_extended}
use Rattle.rv_isa.specs.Table.{row_of}

-- each part is as narrow as its place
pub record AreParts (p : Parts) : Type 0 where
  pub funct7 : p.funct7 < 2 ^ 7
  pub rs2 : p.rs2 < 2 ^ 5
  pub rs1 : p.rs1 < 2 ^ 5
  pub funct3 : p.funct3 < 2 ^ 3
  pub rd : p.rd < 2 ^ 5
  pub opcode : p.opcode < 2 ^ 7

-- a row's own numbers are as narrow as their places
abbrev pub IsNarrow : Row → Type 0
IsNarrow (R opcode funct3 funct7) = (opcode < 2 ^ 7) × (funct3 < 2 ^ 3) × (funct7 < 2 ^ 7)
IsNarrow (I opcode funct3) = (opcode < 2 ^ 7) × (funct3 < 2 ^ 3)
IsNarrow (S opcode funct3) = (opcode < 2 ^ 7) × (funct3 < 2 ^ 3)
IsNarrow (B opcode funct3) = (opcode < 2 ^ 7) × (funct3 < 2 ^ 3)
IsNarrow (U opcode) = opcode < 2 ^ 7
IsNarrow (J opcode) = opcode < 2 ^ 7
IsNarrow (Shift opcode funct3 funct7) = (opcode < 2 ^ 7) × (funct3 < 2 ^ 3) × (funct7 < 2 ^ 7)
IsNarrow (Csr opcode funct3) = (opcode < 2 ^ 7) × (funct3 < 2 ^ 3)
IsNarrow (CsrImmediate opcode funct3) = (opcode < 2 ^ 7) × (funct3 < 2 ^ 3)
IsNarrow (FenceSets opcode funct3) = (opcode < 2 ^ 7) × (funct3 < 2 ^ 3)
IsNarrow (AddressFence opcode funct3 funct7) = (opcode < 2 ^ 7) × (funct3 < 2 ^ 3) × (funct7 < 2 ^ 7)
IsNarrow (Fixed word) = word < 2 ^ 32
IsNarrow DefinedIllegal = Unit {0}

-- the parts are those that the row fixes
abbrev pub is_row : Row → Parts → Bool
is_row (R opcode funct3 funct7) p = nat_eq p.opcode opcode && nat_eq p.funct3 funct3 && nat_eq p.funct7 funct7
is_row (I opcode funct3) p = nat_eq p.opcode opcode && nat_eq p.funct3 funct3
is_row (S opcode funct3) p = nat_eq p.opcode opcode && nat_eq p.funct3 funct3
is_row (B opcode funct3) p = nat_eq p.opcode opcode && nat_eq p.funct3 funct3
is_row (U opcode) p = nat_eq p.opcode opcode
is_row (J opcode) p = nat_eq p.opcode opcode
is_row (Shift opcode funct3 funct7) p = nat_eq p.opcode opcode && nat_eq p.funct3 funct3 && nat_eq p.funct7 funct7
is_row (Csr opcode funct3) p = nat_eq p.opcode opcode && nat_eq p.funct3 funct3
is_row (CsrImmediate opcode funct3) p = nat_eq p.opcode opcode && nat_eq p.funct3 funct3
is_row (FenceSets opcode funct3) p = nat_eq p.opcode opcode && nat_eq p.funct3 funct3 && nat_eq p.rd 0 && nat_eq p.rs1 0 && nat_lt p.funct7 8
is_row (AddressFence opcode funct3 funct7) p = nat_eq p.opcode opcode && nat_eq p.funct3 funct3 && nat_eq p.funct7 funct7 && nat_eq p.rd 0
is_row (Fixed word) p = nat_eq (word_of_parts p) word
is_row DefinedIllegal p = nat_eq (word_of_parts p) 0 || nat_eq (word_of_parts p) 0xffff_ffff

-- the immediates that branches and jumps scatter, and the upper 20 bits of a word (Unprivileged, 2.3)
abbrev pub branch_imm : Parts → ℕ
branch_imm p = bits p.funct7 6 6 * 2 ^ 12 + bits p.rd 0 0 * 2 ^ 11 + bits p.funct7 5 0 * 2 ^ 5 + bits p.rd 4 1 * 2

abbrev pub jump_imm : Parts → ℕ
jump_imm p = bits p.funct7 6 6 * 2 ^ 20 + p.rs1 * 2 ^ 15 + p.funct3 * 2 ^ 12 + bits p.rs2 0 0 * 2 ^ 11 + bits p.funct7 5 0 * 2 ^ 5 + bits p.rs2 4 1 * 2

abbrev pub upper_imm : Parts → ℕ
upper_imm p = p.funct7 * 2 ^ 25 + p.rs2 * 2 ^ 20 + p.rs1 * 2 ^ 15 + p.funct3 * 2 ^ 12

-- the fields where the row's format has them
abbrev pub instr : Op → (rd rs1 rs2 imm csr : ℕ) → Instr
instr op rd rs1 rs2 imm csr = record { op = op; rd = rd; rs1 = rs1; rs2 = rs2; imm = imm; csr = csr }

abbrev pub instr_of : Op → Row → Parts → Instr
instr_of op (R _ _ _) p = instr op p.rd p.rs1 p.rs2 0 0
instr_of op (I _ _) p = instr op p.rd p.rs1 0 (sign_extended 12 (p.funct7 * 2 ^ 5 + p.rs2)) 0
instr_of op (S _ _) p = instr op 0 p.rs1 p.rs2 (sign_extended 12 (p.funct7 * 2 ^ 5 + p.rd)) 0
instr_of op (B _ _) p = instr op 0 p.rs1 p.rs2 (sign_extended 13 (branch_imm p)) 0
instr_of op (U _) p = instr op p.rd 0 0 (upper_imm p) 0
instr_of op (J _) p = instr op p.rd 0 0 (sign_extended 21 (jump_imm p)) 0
instr_of op (Shift _ _ _) p = instr op p.rd p.rs1 0 p.rs2 0
instr_of op (Csr _ _) p = instr op p.rd p.rs1 0 0 (p.funct7 * 2 ^ 5 + p.rs2)
instr_of op (CsrImmediate _ _) p = instr op p.rd 0 0 p.rs1 (p.funct7 * 2 ^ 5 + p.rs2)
instr_of op (FenceSets _ _) p = instr op 0 0 0 (p.funct7 * 2 ^ 5 + p.rs2) 0
instr_of op (AddressFence _ _ _) p = instr op 0 p.rs1 p.rs2 0 0
instr_of op (Fixed _) p = instr op 0 0 0 0 0
instr_of op DefinedIllegal p = instr op 0 0 0 (word_of_parts p) 0

-- the instruction of the first operation of a list whose row these parts are
abbrev pub read_from : List Op → Parts → Option Instr
read_from ops p = option_map (λ op. instr_of op (row_of op) p) (find (λ op. is_row (row_of op) p) ops)

-- the instruction that a word is read as; a number that is no word is read as none
unfoldable pub decoded : ℕ → Option Instr
decoded w = if nat_lt w (2 ^ 32) then read_from OPS (cut_of w) else None
