-- Words are read as what they spell.
use Rattle.std.proofs.Common.{◌≡◌, Some, refl}
use Rattle.rv_csr.specs.declared.table.LazyRegister.TheVariants.{Stvec, Sscratch, Sepc, Scause, Stval, Mtvec, Mscratch, Mepc, Mcause, Mtval}
use Rattle.rv_csr.specs.declared.table.Register.{Register}
use Rattle.rv_csr.specs.declared.table.Register.TheVariants.{Sstatus, Satp, Mstatus, Medeleg, Mhartid, Lazy}
use Rattle.rv_csr.specs.Table.{row_of}
use Rattle.rv_isa.specs.declared.operation.Op.{Op}
use Rattle.rv_isa.specs.declared.operation.Op.TheVariants as ops
use Rattle.rv_isa.specs.Names.{name_of}
use Rattle.tpl_lang.specs.declared.words.Key.{Key}
use Rattle.tpl_lang.specs.declared.words.Key.TheVariants as keys
use Rattle.tpl_lang.specs.Laws.{WordsAreRead}
use Rattle.tpl_lang.specs.Words.{csr_of, key_of, op_of, spelling_of}

key_read : (k : Key) → key_of (spelling_of k) ≡ Some k
unfolding key_of
key_read keys.Ram = refl
key_read keys.Pool = refl
key_read keys.Tables = refl
key_read keys.Pteflags = refl
key_read keys.Vectors = refl
key_read keys.Set = refl
key_read keys.Name = refl
key_read keys.In = refl
key_read keys.Data = refl
key_read keys.Hart = refl
key_read keys.Start = refl
key_read keys.Pc = refl
key_read keys.Priv = refl
key_read keys.Machine = refl
key_read keys.Supervisor = refl
key_read keys.User = refl
key_read keys.Csr = refl
key_read keys.Reg = refl
key_read keys.Body = refl
key_read keys.Do = refl
key_read keys.Fault = refl
key_read keys.Seq = refl
key_read keys.Repeat = refl
key_read keys.Choose = refl
key_read keys.Label = refl
key_read keys.Align = refl
key_read keys.Retire = refl
key_read keys.Prefer = refl
key_read keys.Not = refl
key_read keys.Op = refl
key_read keys.Rs1 = refl
key_read keys.Rs2 = refl
key_read keys.Rd = refl
key_read keys.Imm = refl
key_read keys.Ea = refl
key_read keys.A = refl
key_read keys.B = refl
key_read keys.Pa = refl
key_read keys.Target = refl
key_read keys.Outcome = refl
key_read keys.Taken = refl
key_read keys.Shared = refl

op_read : (op : Op) → op_of (name_of op) ≡ Some op
unfolding op_of
op_read ops.Lui = refl
op_read ops.Auipc = refl
op_read ops.Jal = refl
op_read ops.Jalr = refl
op_read ops.Beq = refl
op_read ops.Bne = refl
op_read ops.Blt = refl
op_read ops.Bge = refl
op_read ops.Bltu = refl
op_read ops.Bgeu = refl
op_read ops.Lb = refl
op_read ops.Lh = refl
op_read ops.Lw = refl
op_read ops.Lbu = refl
op_read ops.Lhu = refl
op_read ops.Sb = refl
op_read ops.Sh = refl
op_read ops.Sw = refl
op_read ops.Addi = refl
op_read ops.Slti = refl
op_read ops.Sltiu = refl
op_read ops.Xori = refl
op_read ops.Ori = refl
op_read ops.Andi = refl
op_read ops.Slli = refl
op_read ops.Srli = refl
op_read ops.Srai = refl
op_read ops.Add = refl
op_read ops.Sub = refl
op_read ops.Sll = refl
op_read ops.Slt = refl
op_read ops.Sltu = refl
op_read ops.Xor = refl
op_read ops.Srl = refl
op_read ops.Sra = refl
op_read ops.Or = refl
op_read ops.And = refl
op_read ops.Fence = refl
op_read ops.Ecall = refl
op_read ops.Ebreak = refl
op_read ops.Mul = refl
op_read ops.Mulh = refl
op_read ops.Mulhsu = refl
op_read ops.Mulhu = refl
op_read ops.Div = refl
op_read ops.Divu = refl
op_read ops.Rem = refl
op_read ops.Remu = refl
op_read ops.Csrrw = refl
op_read ops.Csrrs = refl
op_read ops.Csrrc = refl
op_read ops.Csrrwi = refl
op_read ops.Csrrsi = refl
op_read ops.Csrrci = refl
op_read ops.Mret = refl
op_read ops.Sret = refl
op_read ops.SfenceVma = refl
op_read ops.Illegal = refl

csr_read : (r : Register) → csr_of (row_of r).name ≡ Some r
unfolding csr_of
csr_read Sstatus = refl
csr_read Satp = refl
csr_read Mstatus = refl
csr_read Medeleg = refl
csr_read Mhartid = refl
csr_read (Lazy Stvec) = refl
csr_read (Lazy Sscratch) = refl
csr_read (Lazy Sepc) = refl
csr_read (Lazy Scause) = refl
csr_read (Lazy Stval) = refl
csr_read (Lazy Mtvec) = refl
csr_read (Lazy Mscratch) = refl
csr_read (Lazy Mepc) = refl
csr_read (Lazy Mcause) = refl
csr_read (Lazy Mtval) = refl

pub words_are_read : WordsAreRead
words_are_read = record { keys = key_read; ops = op_read; csrs = csr_read }
