-- The operation with a number, read from the table.
use Rattle.std.proofs.Common.{◌≡◌, ℕ, zero, suc, ◌<◌, List, [], ◌∷◌, length, refl, sym, ap, ◌∙◌, subst, arith}
use Rattle.std.specs.Prelude.{slice_index_or}
use Rattle.rv_isa.specs.declared.operation.Op.{Op}
use Rattle.rv_isa.specs.declared.operation.Op.TheVariants.{Illegal, Lui}
use Rattle.rv_isa.specs.declared.operation.TheConstants.{OPS}
use Rattle.rv_isa.specs.Numbers.{op_numbered}
use Rattle.rv_isa.proofs.Cuts.{same_instr}
use Rattle.fd_prob.specs.declared.slot.Slot.TheVariants as slots
use Rattle.leaf_link.specs.Values.{Values, instr_in}

same_within : {A : Type 0} (xs : List A) (n : ℕ) (d e : A) → n < length xs → slice_index_or xs n d ≡ slice_index_or xs n e
same_within [] n d e h = absurd (omega (arith, h))
same_within (x ∷ xs) zero d e h = refl
same_within (x ∷ xs) (suc n) d e h = same_within xs n d e (omega (arith, h))

pub numbered : (n : ℕ) (d : Op) → n < 58 → slice_index_or OPS n d ≡ op_numbered n
unfolding op_numbered
numbered n d h = same_within OPS n d Illegal h

-- the instruction of values, field by field
pub built : (x : Values) (op rd rs1 rs2 imm csr : ℕ) → x slots.Op < 58 → op ≡ x slots.Op → rd ≡ x slots.Rd → rs1 ≡ x slots.Rs1 → rs2 ≡ x slots.Rs2 → imm ≡ x slots.Imm → csr ≡ x slots.Csr
    → record { op = slice_index_or OPS op Lui; rd = rd; rs1 = rs1; rs2 = rs2; imm = imm; csr = csr } ≡ instr_in x
built x op rd rs1 rs2 imm csr small o r s t i c =
    let first : slice_index_or OPS op Lui ≡ op_numbered (x slots.Op) = numbered op Lui (subst (λ (n : ℕ). n < 58) (sym o) small) ∙ ap op_numbered o in
    same_instr (record { op = slice_index_or OPS op Lui; rd = rd; rs1 = rs1; rs2 = rs2; imm = imm; csr = csr }) (instr_in x) first r s t i c
