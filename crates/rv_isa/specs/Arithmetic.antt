-- What instructions compute of the values of registers. A word is a number below 2 ^ 32.
use Rattle.std.specs.Prelude.{ℕ, ◌+◌, ◌-◌, ◌*◌, ◌/◌, ◌%◌, ◌^◌, ℤ, pos, ◌*ℤ◌, Bool, false, not, ◌==◌, if◌then◌else◌, nat_eq, nat_le, nat_lt, int_lt, int_div, int_rem, bit_and, bit_or, bit_xor}
use Rattle.std.specs.Int.{w32, w64, cast_signed, cast_unsigned, int_shr}
use Rattle.rv_isa.specs.declared.operation.Op.{Op}
use Rattle.rv_isa.specs.declared.operation.Op.TheVariants.{Beq, Bne, Blt, Bge, Bltu, Bgeu, Addi, Slti, Sltiu, Xori, Ori, Andi, Slli, Srli, Srai, Add, Sub, Sll, Slt, Sltu, Xor, Srl, Sra, Or, And, Mul, Mulh, Mulhsu, Mulhu, Div, Divu, Rem, Remu}
use Rattle.rv_isa.specs.declared.table.Row.{Row}
use Rattle.rv_isa.specs.declared.table.Row.TheVariants.{R, I, Shift, B, S, U, J, Csr, CsrImmediate, FenceSets, AddressFence, Fixed, DefinedIllegal}
use Rattle.rv_isa.specs.Table.{row_of}

-- the opcodes OP and OP-IMM (Unprivileged, 2.4)
abbrev pub has_result : Row → Bool
has_result (R opcode funct3 funct7) = opcode == 0x33
has_result (I opcode funct3) = opcode == 0x13
has_result (Shift opcode funct3 funct7) = opcode == 0x13
has_result (S opcode funct3) = false
has_result (B opcode funct3) = false
has_result (U opcode) = false
has_result (J opcode) = false
has_result (Csr opcode funct3) = false
has_result (CsrImmediate opcode funct3) = false
has_result (FenceSets opcode funct3) = false
has_result (AddressFence opcode funct3 funct7) = false
has_result (Fixed word) = false
has_result DefinedIllegal = false

-- the operation computes a word of two words
abbrev pub is_alu : Op → Bool
is_alu op = has_result (row_of op)

-- the opcode BRANCH (Unprivileged, 2.5.2)
abbrev pub has_condition : Row → Bool
has_condition (B opcode funct3) = opcode == 0x63
has_condition (R opcode funct3 funct7) = false
has_condition (I opcode funct3) = false
has_condition (Shift opcode funct3 funct7) = false
has_condition (S opcode funct3) = false
has_condition (U opcode) = false
has_condition (J opcode) = false
has_condition (Csr opcode funct3) = false
has_condition (CsrImmediate opcode funct3) = false
has_condition (FenceSets opcode funct3) = false
has_condition (AddressFence opcode funct3 funct7) = false
has_condition (Fixed word) = false
has_condition DefinedIllegal = false

abbrev pub is_branch : Op → Bool
is_branch op = has_condition (row_of op)

-- a word read as a signed number, and the word that a number leaves
abbrev pub signed : ℕ → ℤ
signed x = cast_signed w32 x

abbrev pub word : ℤ → ℕ
word z = cast_unsigned w32 z

-- the upper half of the 64 bits of a product
abbrev pub upper : ℤ → ℕ
upper z = cast_unsigned w64 z / 2 ^ 32

-- 1 where it holds, and else 0
abbrev pub flag : Bool → ℕ
flag b = if b then 1 else 0

-- what an operation computes of rs1's value and of rs2's, or the immediate
abbrev pub alu_result : Op → ℕ → ℕ → ℕ
-- Unprivileged, 2.4.1
alu_result Addi x y = (x + y) % 2 ^ 32
alu_result Slti x y = flag (int_lt (signed x) (signed y))
alu_result Sltiu x y = flag (nat_lt x y)
alu_result Xori x y = bit_xor x y
alu_result Ori x y = bit_or x y
alu_result Andi x y = bit_and x y
alu_result Slli x y = (x * 2 ^ (y % 32)) % 2 ^ 32
alu_result Srli x y = x / 2 ^ (y % 32)
alu_result Srai x y = word (int_shr (signed x) (y % 32))
-- Unprivileged, 2.4.2
alu_result Add x y = (x + y) % 2 ^ 32
alu_result Sub x y = (x + (2 ^ 32 - y)) % 2 ^ 32
alu_result Sll x y = (x * 2 ^ (y % 32)) % 2 ^ 32
alu_result Slt x y = flag (int_lt (signed x) (signed y))
alu_result Sltu x y = flag (nat_lt x y)
alu_result Xor x y = bit_xor x y
alu_result Srl x y = x / 2 ^ (y % 32)
alu_result Sra x y = word (int_shr (signed x) (y % 32))
alu_result Or x y = bit_or x y
alu_result And x y = bit_and x y
-- Unprivileged, M, Multiplication Operations
alu_result Mul x y = (x * y) % 2 ^ 32
alu_result Mulh x y = upper (signed x *ℤ signed y)
alu_result Mulhsu x y = upper (signed x *ℤ pos y)
alu_result Mulhu x y = (x * y) / 2 ^ 32
-- Unprivileged, M, Division Operations: by zero the quotient has all bits set and the remainder is the dividend; the quotient of the
-- least number by -1 is that number, and the remainder 0
alu_result Div x y = if y == 0 then 2 ^ 32 - 1 else word (int_div (signed x) (signed y))
alu_result Divu x y = if y == 0 then 2 ^ 32 - 1 else x / y
alu_result Rem x y = if y == 0 then x else word (int_rem (signed x) (signed y))
alu_result Remu x y = if y == 0 then x else x % y
alu_result _ x y = 0

-- whether a branch goes to its target, by the values of rs1 and rs2 (Unprivileged, 2.5.2)
abbrev pub is_taken : Op → ℕ → ℕ → Bool
is_taken Beq x y = nat_eq x y
is_taken Bne x y = not (nat_eq x y)
is_taken Blt x y = int_lt (signed x) (signed y)
is_taken Bge x y = not (int_lt (signed x) (signed y))
is_taken Bltu x y = nat_lt x y
is_taken Bgeu x y = nat_le y x
is_taken _ x y = false
