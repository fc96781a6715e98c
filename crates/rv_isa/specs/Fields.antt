-- Which fields a row's format has, and which registers its operations read.
use Rattle.std.specs.Prelude.{Bool, true, false, ◌||◌, ◌==◌}
use Rattle.rv_isa.specs.declared.table.Row.{Row}
use Rattle.rv_isa.specs.declared.table.Row.TheVariants.{R, I, Shift, S, B, U, J, Csr, CsrImmediate, AddressFence, Fixed, FenceSets, DefinedIllegal}

abbrev pub has_rd : Row → Bool
has_rd (R opcode funct3 funct7) = true
has_rd (I opcode funct3) = true
has_rd (Shift opcode funct3 funct7) = true
has_rd (U opcode) = true
has_rd (J opcode) = true
has_rd (Csr opcode funct3) = true
has_rd (CsrImmediate opcode funct3) = true
has_rd (S opcode funct3) = false
has_rd (B opcode funct3) = false
has_rd (FenceSets opcode funct3) = false
has_rd (AddressFence opcode funct3 funct7) = false
has_rd (Fixed word) = false
has_rd DefinedIllegal = false

abbrev pub has_rs1 : Row → Bool
has_rs1 (R opcode funct3 funct7) = true
has_rs1 (I opcode funct3) = true
has_rs1 (Shift opcode funct3 funct7) = true
has_rs1 (S opcode funct3) = true
has_rs1 (B opcode funct3) = true
has_rs1 (Csr opcode funct3) = true
has_rs1 (AddressFence opcode funct3 funct7) = true
has_rs1 (U opcode) = false
has_rs1 (J opcode) = false
has_rs1 (CsrImmediate opcode funct3) = false
has_rs1 (FenceSets opcode funct3) = false
has_rs1 (Fixed word) = false
has_rs1 DefinedIllegal = false

abbrev pub has_rs2 : Row → Bool
has_rs2 (R opcode funct3 funct7) = true
has_rs2 (S opcode funct3) = true
has_rs2 (B opcode funct3) = true
has_rs2 (AddressFence opcode funct3 funct7) = true
has_rs2 (I opcode funct3) = false
has_rs2 (Shift opcode funct3 funct7) = false
has_rs2 (U opcode) = false
has_rs2 (J opcode) = false
has_rs2 (Csr opcode funct3) = false
has_rs2 (CsrImmediate opcode funct3) = false
has_rs2 (FenceSets opcode funct3) = false
has_rs2 (Fixed word) = false
has_rs2 DefinedIllegal = false

abbrev pub has_imm : Row → Bool
has_imm (R opcode funct3 funct7) = false
has_imm (Csr opcode funct3) = false
has_imm (AddressFence opcode funct3 funct7) = false
has_imm (Fixed word) = false
has_imm (I opcode funct3) = true
has_imm (Shift opcode funct3 funct7) = true
has_imm (S opcode funct3) = true
has_imm (B opcode funct3) = true
has_imm (U opcode) = true
has_imm (J opcode) = true
has_imm (CsrImmediate opcode funct3) = true
has_imm (FenceSets opcode funct3) = true
has_imm DefinedIllegal = true

abbrev pub has_csr : Row → Bool
has_csr (Csr opcode funct3) = true
has_csr (CsrImmediate opcode funct3) = true
has_csr (R opcode funct3 funct7) = false
has_csr (I opcode funct3) = false
has_csr (Shift opcode funct3 funct7) = false
has_csr (S opcode funct3) = false
has_csr (B opcode funct3) = false
has_csr (U opcode) = false
has_csr (J opcode) = false
has_csr (FenceSets opcode funct3) = false
has_csr (AddressFence opcode funct3 funct7) = false
has_csr (Fixed word) = false
has_csr DefinedIllegal = false

-- the value of rs1 matters; this machine's SFENCE.VMA is for all addresses
abbrev pub reads_rs1 : Row → Bool
reads_rs1 (R opcode funct3 funct7) = true
reads_rs1 (I opcode funct3) = true
reads_rs1 (Shift opcode funct3 funct7) = true
reads_rs1 (S opcode funct3) = true
reads_rs1 (B opcode funct3) = true
reads_rs1 (U opcode) = false
reads_rs1 (J opcode) = false
reads_rs1 (Csr opcode funct3) = true
reads_rs1 (CsrImmediate opcode funct3) = false
reads_rs1 (FenceSets opcode funct3) = false
reads_rs1 (AddressFence opcode funct3 funct7) = false
reads_rs1 (Fixed word) = false
reads_rs1 DefinedIllegal = false

abbrev pub reads_rs2 : Row → Bool
reads_rs2 (R opcode funct3 funct7) = true
reads_rs2 (I opcode funct3) = false
reads_rs2 (Shift opcode funct3 funct7) = false
reads_rs2 (S opcode funct3) = true
reads_rs2 (B opcode funct3) = true
reads_rs2 (U opcode) = false
reads_rs2 (J opcode) = false
reads_rs2 (Csr opcode funct3) = false
reads_rs2 (CsrImmediate opcode funct3) = false
reads_rs2 (FenceSets opcode funct3) = false
reads_rs2 (AddressFence opcode funct3 funct7) = false
reads_rs2 (Fixed word) = false
reads_rs2 DefinedIllegal = false

-- the opcodes LOAD and STORE (Unprivileged, 2.6)
abbrev pub is_load : Row → Bool
is_load (I opcode funct3) = opcode == 0x03
is_load (R opcode funct3 funct7) = false
is_load (Shift opcode funct3 funct7) = false
is_load (S opcode funct3) = false
is_load (B opcode funct3) = false
is_load (U opcode) = false
is_load (J opcode) = false
is_load (Csr opcode funct3) = false
is_load (CsrImmediate opcode funct3) = false
is_load (FenceSets opcode funct3) = false
is_load (AddressFence opcode funct3 funct7) = false
is_load (Fixed word) = false
is_load DefinedIllegal = false

abbrev pub is_store : Row → Bool
is_store (S opcode funct3) = opcode == 0x23
is_store (R opcode funct3 funct7) = false
is_store (I opcode funct3) = false
is_store (Shift opcode funct3 funct7) = false
is_store (B opcode funct3) = false
is_store (U opcode) = false
is_store (J opcode) = false
is_store (Csr opcode funct3) = false
is_store (CsrImmediate opcode funct3) = false
is_store (FenceSets opcode funct3) = false
is_store (AddressFence opcode funct3 funct7) = false
is_store (Fixed word) = false
is_store DefinedIllegal = false

-- the opcodes LOAD and STORE: the operation accesses data at a virtual address (Unprivileged, 2.6)
abbrev pub has_address : Row → Bool
has_address row = is_load row || is_store row

-- the opcode JAL (Unprivileged, 2.5.1)
abbrev pub is_jump : Row → Bool
is_jump (J opcode) = opcode == 0x6f
is_jump (R opcode funct3 funct7) = false
is_jump (I opcode funct3) = false
is_jump (Shift opcode funct3 funct7) = false
is_jump (S opcode funct3) = false
is_jump (B opcode funct3) = false
is_jump (U opcode) = false
is_jump (Csr opcode funct3) = false
is_jump (CsrImmediate opcode funct3) = false
is_jump (FenceSets opcode funct3) = false
is_jump (AddressFence opcode funct3 funct7) = false
is_jump (Fixed word) = false
is_jump DefinedIllegal = false
