-- The letters of names.
use Rattle.std.proofs.Common.{◌≡◌, ℕ, List, ◌++◌, append_assoc, codes, refl, sym, ap, ◌∙◌}
use Rattle.std.specs.Prelude.{encode_utf8}
use Rattle.std.specs.List.{flat_map}
use Rattle.std.specs.Fmt.{decimal}
use Rattle.rv_isa.specs.declared.operation.Op.{Op}
use Rattle.rv_isa.specs.declared.operation.Op.TheVariants as ops
use Rattle.rv_isa.specs.Names.{name_of}
use Rattle.cover_sweep.specs.Summary.{op_line}

-- each letter of a name is one byte
pub name_letters : (op : Op) → flat_map encode_utf8 (name_of op) ≡ name_of op
unfolding lib.Utf8.encode
name_letters ops.Lui = refl
name_letters ops.Auipc = refl
name_letters ops.Jal = refl
name_letters ops.Jalr = refl
name_letters ops.Beq = refl
name_letters ops.Bne = refl
name_letters ops.Blt = refl
name_letters ops.Bge = refl
name_letters ops.Bltu = refl
name_letters ops.Bgeu = refl
name_letters ops.Lb = refl
name_letters ops.Lh = refl
name_letters ops.Lw = refl
name_letters ops.Lbu = refl
name_letters ops.Lhu = refl
name_letters ops.Sb = refl
name_letters ops.Sh = refl
name_letters ops.Sw = refl
name_letters ops.Addi = refl
name_letters ops.Slti = refl
name_letters ops.Sltiu = refl
name_letters ops.Xori = refl
name_letters ops.Ori = refl
name_letters ops.Andi = refl
name_letters ops.Slli = refl
name_letters ops.Srli = refl
name_letters ops.Srai = refl
name_letters ops.Add = refl
name_letters ops.Sub = refl
name_letters ops.Sll = refl
name_letters ops.Slt = refl
name_letters ops.Sltu = refl
name_letters ops.Xor = refl
name_letters ops.Srl = refl
name_letters ops.Sra = refl
name_letters ops.Or = refl
name_letters ops.And = refl
name_letters ops.Fence = refl
name_letters ops.Ecall = refl
name_letters ops.Ebreak = refl
name_letters ops.Mul = refl
name_letters ops.Mulh = refl
name_letters ops.Mulhsu = refl
name_letters ops.Mulhu = refl
name_letters ops.Div = refl
name_letters ops.Divu = refl
name_letters ops.Rem = refl
name_letters ops.Remu = refl
name_letters ops.Csrrw = refl
name_letters ops.Csrrs = refl
name_letters ops.Csrrc = refl
name_letters ops.Csrrwi = refl
name_letters ops.Csrrsi = refl
name_letters ops.Csrrci = refl
name_letters ops.Mret = refl
name_letters ops.Sret = refl
name_letters ops.SfenceVma = refl
name_letters ops.Illegal = refl

-- the line of an operation in the pieces in which it is written
pub op_written : (op : Op) (count : ℕ) (letters : List ℕ) → letters ≡ name_of op → op_line (op, count) ≡ codes "op " ++ (flat_map encode_utf8 letters ++ (codes " " ++ (decimal count ++ codes "\n")))
unfolding op_line
op_written op count letters is =
    let told : flat_map encode_utf8 letters ≡ name_of op = ap (flat_map encode_utf8) is ∙ name_letters op in
    let end : op_line (op, count) ≡ codes "op " ++ (name_of op ++ (codes " " ++ (decimal count ++ codes "\n"))) = simp append_assoc in
    end ∙ ap (λ (name : List ℕ). codes "op " ++ (name ++ (codes " " ++ (decimal count ++ codes "\n")))) (sym told)
