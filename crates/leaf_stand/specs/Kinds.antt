-- Operations by how their steps go on after the sources.
use Rattle.rv_isa.specs.declared.operation.Op.{Op}
use Rattle.rv_isa.specs.declared.operation.Op.TheVariants as ops
use Rattle.leaf_stand.specs.declared.kind.Kind.{Kind}
use Rattle.leaf_stand.specs.declared.kind.Kind.TheVariants as kinds

abbrev pub kind_of : Op → Kind
kind_of ops.Jal = kinds.Jump
kind_of ops.Jalr = kinds.JumpRegister
kind_of ops.Beq = kinds.Branch
kind_of ops.Bne = kinds.Branch
kind_of ops.Blt = kinds.Branch
kind_of ops.Bge = kinds.Branch
kind_of ops.Bltu = kinds.Branch
kind_of ops.Bgeu = kinds.Branch
kind_of ops.Lb = kinds.Data
kind_of ops.Lh = kinds.Data
kind_of ops.Lw = kinds.Data
kind_of ops.Lbu = kinds.Data
kind_of ops.Lhu = kinds.Data
kind_of ops.Sb = kinds.Data
kind_of ops.Sh = kinds.Data
kind_of ops.Sw = kinds.Data
kind_of ops.Ecall = kinds.Call
kind_of ops.Ebreak = kinds.Break
kind_of ops.Csrrw = kinds.Csr
kind_of ops.Csrrs = kinds.Csr
kind_of ops.Csrrc = kinds.Csr
kind_of ops.Csrrwi = kinds.Csr
kind_of ops.Csrrsi = kinds.Csr
kind_of ops.Csrrci = kinds.Csr
kind_of ops.Mret = kinds.MachineReturn
kind_of ops.Sret = kinds.SupervisorReturn
kind_of ops.SfenceVma = kinds.AddressFence
kind_of ops.Illegal = kinds.Illegal
kind_of op = kinds.Plain
