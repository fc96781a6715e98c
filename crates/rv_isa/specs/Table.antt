-- The table of encodings, one line for each operation: its format, and then opcode, funct3 and funct7.
-- The numbers are those of the manuals' instruction listings.
use Rattle.rv_isa.specs.declared.operation.Op.{Op}
use Rattle.rv_isa.specs.declared.operation.Op.TheVariants.{Lui, Auipc, Jal, Jalr, Beq, Bne, Blt, Bge, Bltu, Bgeu, Lb, Lh, Lw, Lbu, Lhu, Sb, Sh, Sw, Addi, Slti, Sltiu, Xori, Ori, Andi, Slli, Srli, Srai, Add, Sub, Sll, Slt, Sltu, Xor, Srl, Sra, Or, And, Fence, Ecall, Ebreak, Mul, Mulh, Mulhsu, Mulhu, Div, Divu, Rem, Remu, Csrrw, Csrrs, Csrrc, Csrrwi, Csrrsi, Csrrci, Mret, Sret, SfenceVma, Illegal}
use Rattle.rv_isa.specs.declared.table.Row.{Row}
use Rattle.rv_isa.specs.declared.table.Row.TheVariants.{R, I, Shift, S, B, U, J, Csr, CsrImmediate, FenceSets, AddressFence, Fixed, DefinedIllegal}

abbrev pub row_of : Op → Row
-- Unprivileged, 2.4.1
row_of Lui = U 0x37
row_of Auipc = U 0x17
-- Unprivileged, 2.5.1
row_of Jal = J 0x6f
row_of Jalr = I 0x67 0
-- Unprivileged, 2.5.2
row_of Beq = B 0x63 0
row_of Bne = B 0x63 1
row_of Blt = B 0x63 4
row_of Bge = B 0x63 5
row_of Bltu = B 0x63 6
row_of Bgeu = B 0x63 7
-- Unprivileged, 2.6
row_of Lb = I 0x03 0
row_of Lh = I 0x03 1
row_of Lw = I 0x03 2
row_of Lbu = I 0x03 4
row_of Lhu = I 0x03 5
row_of Sb = S 0x23 0
row_of Sh = S 0x23 1
row_of Sw = S 0x23 2
-- Unprivileged, 2.4.1
row_of Addi = I 0x13 0
row_of Slti = I 0x13 2
row_of Sltiu = I 0x13 3
row_of Xori = I 0x13 4
row_of Ori = I 0x13 6
row_of Andi = I 0x13 7
row_of Slli = Shift 0x13 1 0x00
row_of Srli = Shift 0x13 5 0x00
row_of Srai = Shift 0x13 5 0x20
-- Unprivileged, 2.4.2
row_of Add = R 0x33 0 0x00
row_of Sub = R 0x33 0 0x20
row_of Sll = R 0x33 1 0x00
row_of Slt = R 0x33 2 0x00
row_of Sltu = R 0x33 3 0x00
row_of Xor = R 0x33 4 0x00
row_of Srl = R 0x33 5 0x00
row_of Sra = R 0x33 5 0x20
row_of Or = R 0x33 6 0x00
row_of And = R 0x33 7 0x00
-- Unprivileged, 2.7
row_of Fence = FenceSets 0x0f 0
-- Unprivileged, 2.8
row_of Ecall = Fixed 0x0000_0073
row_of Ebreak = Fixed 0x0010_0073
-- Unprivileged, M, Multiplication Operations
row_of Mul = R 0x33 0 0x01
row_of Mulh = R 0x33 1 0x01
row_of Mulhsu = R 0x33 2 0x01
row_of Mulhu = R 0x33 3 0x01
-- Unprivileged, M, Division Operations
row_of Div = R 0x33 4 0x01
row_of Divu = R 0x33 5 0x01
row_of Rem = R 0x33 6 0x01
row_of Remu = R 0x33 7 0x01
-- Unprivileged, Zicsr, CSR Instructions
row_of Csrrw = Csr 0x73 1
row_of Csrrs = Csr 0x73 2
row_of Csrrc = Csr 0x73 3
row_of Csrrwi = CsrImmediate 0x73 5
row_of Csrrsi = CsrImmediate 0x73 6
row_of Csrrci = CsrImmediate 0x73 7
-- Privileged, 3.3.2
row_of Mret = Fixed 0x3020_0073
row_of Sret = Fixed 0x1020_0073
-- Privileged, Supervisor Memory-Management Fence Instruction
row_of SfenceVma = AddressFence 0x73 0 0x09
-- Unprivileged, 1.5
row_of Illegal = DefinedIllegal
