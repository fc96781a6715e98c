-- What each operation does, by its name.
use Rattle.std.specs.Prelude.{◌≡◌, ℕ}
use Rattle.rv_isa.specs.declared.instruction.Instr.{Instr}
use Rattle.rv_isa.specs.declared.operation.Op.{Op}
use Rattle.rv_isa.specs.declared.operation.Op.TheVariants as ops
use Rattle.rv_isa.specs.Table.{row_of}
use Rattle.rv_script.specs.Script.{Script}
use Rattle.rv_hart.specs.declared.record.Change.{Change}
use Rattle.rv_hart.specs.Fixed.{Fixed}
use Rattle.rv_hart.specs.Machine.{branch_row, effect, fence_row, immediate_row, jump_register_row, jump_row, load_row, register_row, store_row, upper_pc_row, upper_row}
use Rattle.rv_hart.specs.Privileged.{address_fence_row, break_row, call_row, csr_immediate_row, csr_row, mret_row, refused, sret_row}

abbrev pub effect_of : Op → Fixed → ℕ → Instr → Script Change
effect_of ops.Lui f word i = upper_row f word i
effect_of ops.Auipc f word i = upper_pc_row f word i
effect_of ops.Jal f word i = jump_row f word i
effect_of ops.Jalr f word i = jump_register_row f word i
effect_of ops.Beq f word i = branch_row f word i
effect_of ops.Bne f word i = branch_row f word i
effect_of ops.Blt f word i = branch_row f word i
effect_of ops.Bge f word i = branch_row f word i
effect_of ops.Bltu f word i = branch_row f word i
effect_of ops.Bgeu f word i = branch_row f word i
effect_of ops.Lb f word i = load_row f word i
effect_of ops.Lh f word i = load_row f word i
effect_of ops.Lw f word i = load_row f word i
effect_of ops.Lbu f word i = load_row f word i
effect_of ops.Lhu f word i = load_row f word i
effect_of ops.Sb f word i = store_row f word i
effect_of ops.Sh f word i = store_row f word i
effect_of ops.Sw f word i = store_row f word i
effect_of ops.Addi f word i = immediate_row f word i
effect_of ops.Slti f word i = immediate_row f word i
effect_of ops.Sltiu f word i = immediate_row f word i
effect_of ops.Xori f word i = immediate_row f word i
effect_of ops.Ori f word i = immediate_row f word i
effect_of ops.Andi f word i = immediate_row f word i
effect_of ops.Slli f word i = immediate_row f word i
effect_of ops.Srli f word i = immediate_row f word i
effect_of ops.Srai f word i = immediate_row f word i
effect_of ops.Add f word i = register_row f word i
effect_of ops.Sub f word i = register_row f word i
effect_of ops.Sll f word i = register_row f word i
effect_of ops.Slt f word i = register_row f word i
effect_of ops.Sltu f word i = register_row f word i
effect_of ops.Xor f word i = register_row f word i
effect_of ops.Srl f word i = register_row f word i
effect_of ops.Sra f word i = register_row f word i
effect_of ops.Or f word i = register_row f word i
effect_of ops.And f word i = register_row f word i
effect_of ops.Fence f word i = fence_row f word i
effect_of ops.Ecall f word i = call_row f word
effect_of ops.Ebreak f word i = break_row f word
effect_of ops.Mul f word i = register_row f word i
effect_of ops.Mulh f word i = register_row f word i
effect_of ops.Mulhsu f word i = register_row f word i
effect_of ops.Mulhu f word i = register_row f word i
effect_of ops.Div f word i = register_row f word i
effect_of ops.Divu f word i = register_row f word i
effect_of ops.Rem f word i = register_row f word i
effect_of ops.Remu f word i = register_row f word i
effect_of ops.Csrrw f word i = csr_row f word i
effect_of ops.Csrrs f word i = csr_row f word i
effect_of ops.Csrrc f word i = csr_row f word i
effect_of ops.Csrrwi f word i = csr_immediate_row f word i
effect_of ops.Csrrsi f word i = csr_immediate_row f word i
effect_of ops.Csrrci f word i = csr_immediate_row f word i
effect_of ops.Mret f word i = mret_row f word
effect_of ops.Sret f word i = sret_row f word
effect_of ops.SfenceVma f word i = address_fence_row f word
effect_of ops.Illegal f word i = refused f word

-- each row of the table of encodings has the effect of its operation: none falls into an arm of `effect` that has no step
abbrev pub RowsHaveEffects : Type 0
RowsHaveEffects = (op : Op) (f : Fixed) (word : ℕ) (i : Instr) → effect (row_of op) f word i ≡ effect_of op f word i
