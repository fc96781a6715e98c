-- Each row of the table of encodings has the effect of its operation.
use Rattle.std.proofs.Common.{refl}
use Rattle.rv_isa.specs.declared.operation.Op.TheVariants as ops
use Rattle.rv_hart.specs.Operations.{RowsHaveEffects}

pub rows_have_effects : RowsHaveEffects
rows_have_effects ops.Lui f word i = refl
rows_have_effects ops.Auipc f word i = refl
rows_have_effects ops.Jal f word i = refl
rows_have_effects ops.Jalr f word i = refl
rows_have_effects ops.Beq f word i = refl
rows_have_effects ops.Bne f word i = refl
rows_have_effects ops.Blt f word i = refl
rows_have_effects ops.Bge f word i = refl
rows_have_effects ops.Bltu f word i = refl
rows_have_effects ops.Bgeu f word i = refl
rows_have_effects ops.Lb f word i = refl
rows_have_effects ops.Lh f word i = refl
rows_have_effects ops.Lw f word i = refl
rows_have_effects ops.Lbu f word i = refl
rows_have_effects ops.Lhu f word i = refl
rows_have_effects ops.Sb f word i = refl
rows_have_effects ops.Sh f word i = refl
rows_have_effects ops.Sw f word i = refl
rows_have_effects ops.Addi f word i = refl
rows_have_effects ops.Slti f word i = refl
rows_have_effects ops.Sltiu f word i = refl
rows_have_effects ops.Xori f word i = refl
rows_have_effects ops.Ori f word i = refl
rows_have_effects ops.Andi f word i = refl
rows_have_effects ops.Slli f word i = refl
rows_have_effects ops.Srli f word i = refl
rows_have_effects ops.Srai f word i = refl
rows_have_effects ops.Add f word i = refl
rows_have_effects ops.Sub f word i = refl
rows_have_effects ops.Sll f word i = refl
rows_have_effects ops.Slt f word i = refl
rows_have_effects ops.Sltu f word i = refl
rows_have_effects ops.Xor f word i = refl
rows_have_effects ops.Srl f word i = refl
rows_have_effects ops.Sra f word i = refl
rows_have_effects ops.Or f word i = refl
rows_have_effects ops.And f word i = refl
rows_have_effects ops.Fence f word i = refl
rows_have_effects ops.Ecall f word i = refl
rows_have_effects ops.Ebreak f word i = refl
rows_have_effects ops.Mul f word i = refl
rows_have_effects ops.Mulh f word i = refl
rows_have_effects ops.Mulhsu f word i = refl
rows_have_effects ops.Mulhu f word i = refl
rows_have_effects ops.Div f word i = refl
rows_have_effects ops.Divu f word i = refl
rows_have_effects ops.Rem f word i = refl
rows_have_effects ops.Remu f word i = refl
rows_have_effects ops.Csrrw f word i = refl
rows_have_effects ops.Csrrs f word i = refl
rows_have_effects ops.Csrrc f word i = refl
rows_have_effects ops.Csrrwi f word i = refl
rows_have_effects ops.Csrrsi f word i = refl
rows_have_effects ops.Csrrci f word i = refl
rows_have_effects ops.Mret f word i = refl
rows_have_effects ops.Sret f word i = refl
rows_have_effects ops.SfenceVma f word i = refl
rows_have_effects ops.Illegal f word i = refl
