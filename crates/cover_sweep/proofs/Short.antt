-- How long a summary is.
use Rattle.std.proofs.Common.{◌≡◌, ℕ, zero, suc, ◌+◌, ◌*◌, ◌/◌, ◌%◌, ◌<◌, ◌≤◌, Bool, true, false, cond, List, [], ◌∷◌, length, length-append, ap, inl, inr, arith}
use Rattle.std.specs.Prelude.{◌==◌}
use Rattle.std.specs.Fmt.{decimal, digit_glyph, digits, digits_onto}
use Rattle.std.specs.List.{flat_map}
use Rattle.std.proofs.lemmas.Bool.{cases_eq}
use Rattle.std.proofs.lemmas.Bool.Decides.{nat_tests}
use Rattle.std.proofs.lemmas.List.Concat.{flat_map-append}
use Rattle.rv_isa.specs.declared.operation.Op.{Op}
use Rattle.rv_isa.specs.declared.operation.Op.TheVariants as ops
use Rattle.rv_isa.specs.declared.operation.TheConstants.{OPS}
use Rattle.rv_isa.specs.Names.{name_of}
use Rattle.rv_isa.specs.Numbers.{op_number}
use Rattle.rv_hart.specs.declared.record.Record.{Record}
use Rattle.tpl_admit.specs.declared.certificate.Cert.{Cert}
use Rattle.tpl_ast.specs.Limits.{text_room}
use Rattle.cover_sweep.specs.Counts.{counted, counts_among, counts_of, times_of}
use Rattle.cover_sweep.specs.Summary.{op_line, ops_text, steps_of, summary_end, summary_head, summary_text}

-- ---- numbers and names

none_left : (places base n : ℕ) (acc : List ℕ) → n / base ≡ 0 → digits_onto (suc places) base false n acc ≡ digit_glyph false (n % base) ∷ acc
none_left places base n acc none = grind (arith, nat_tests)

some_left : (places base n : ℕ) (acc : List ℕ) → (n / base ≡ 0 → ⊥) → digits_onto (suc places) base false n acc ≡ digits_onto places base false (n / base) (digit_glyph false (n % base) ∷ acc)
some_left places base n acc some = grind (arith, nat_tests)

few_digits : (places base n : ℕ) (acc : List ℕ) → length (digits_onto places base false n acc) ≤ places + length acc
few_digits zero base n acc = omega arith
few_digits (suc places) base n acc = elim (cases_eq (n / base) 0) [
  | inl none ↦ omega (arith, ap length (none_left places base n acc none))
  | inr some ↦ omega (arith, ap length (some_left places base n acc some), few_digits places base (n / base) (digit_glyph false (n % base) ∷ acc))
]

decimal_short : (n : ℕ) → length (decimal n) ≤ 64
unfolding digits
decimal_short n = omega (arith, few_digits 64 10 n [])

name_short : (op : Op) → length (name_of op) ≤ 10
name_short ops.Lui = omega arith
name_short ops.Auipc = omega arith
name_short ops.Jal = omega arith
name_short ops.Jalr = omega arith
name_short ops.Beq = omega arith
name_short ops.Bne = omega arith
name_short ops.Blt = omega arith
name_short ops.Bge = omega arith
name_short ops.Bltu = omega arith
name_short ops.Bgeu = omega arith
name_short ops.Lb = omega arith
name_short ops.Lh = omega arith
name_short ops.Lw = omega arith
name_short ops.Lbu = omega arith
name_short ops.Lhu = omega arith
name_short ops.Sb = omega arith
name_short ops.Sh = omega arith
name_short ops.Sw = omega arith
name_short ops.Addi = omega arith
name_short ops.Slti = omega arith
name_short ops.Sltiu = omega arith
name_short ops.Xori = omega arith
name_short ops.Ori = omega arith
name_short ops.Andi = omega arith
name_short ops.Slli = omega arith
name_short ops.Srli = omega arith
name_short ops.Srai = omega arith
name_short ops.Add = omega arith
name_short ops.Sub = omega arith
name_short ops.Sll = omega arith
name_short ops.Slt = omega arith
name_short ops.Sltu = omega arith
name_short ops.Xor = omega arith
name_short ops.Srl = omega arith
name_short ops.Sra = omega arith
name_short ops.Or = omega arith
name_short ops.And = omega arith
name_short ops.Fence = omega arith
name_short ops.Ecall = omega arith
name_short ops.Ebreak = omega arith
name_short ops.Mul = omega arith
name_short ops.Mulh = omega arith
name_short ops.Mulhsu = omega arith
name_short ops.Mulhu = omega arith
name_short ops.Div = omega arith
name_short ops.Divu = omega arith
name_short ops.Rem = omega arith
name_short ops.Remu = omega arith
name_short ops.Csrrw = omega arith
name_short ops.Csrrs = omega arith
name_short ops.Csrrc = omega arith
name_short ops.Csrrwi = omega arith
name_short ops.Csrrsi = omega arith
name_short ops.Csrrci = omega arith
name_short ops.Mret = omega arith
name_short ops.Sret = omega arith
name_short ops.SfenceVma = omega arith
name_short ops.Illegal = omega arith

-- ---- lines

line_short : (op : Op) (count : ℕ) → length (op_line (op, count)) ≤ 80
unfolding op_line
line_short op count = simp length-append (omega (arith, name_short op, decimal_short count))

one_short : (op : Op) (count : ℕ) → length (flat_map op_line (counted op count)) ≤ 80
one_short op count = go (count == 0)
  where
    go : (none : Bool) → length (flat_map op_line (cond none [] ((op, count) ∷ []))) ≤ 80
    go true = omega arith
    go false = simp length-append (omega (arith, line_short op count))

all_short : (ts : List (List Record)) (list : List Op) → length (flat_map op_line (counts_among ts list)) ≤ 80 * length list
all_short ts [] = omega arith
all_short ts (op ∷ list) =
    let first : List (Op × ℕ) = counted op (times_of (op_number op) ts) in
    let both = flat_map-append op_line first (counts_among ts list) in
    omega (arith, ap length both, length-append (flat_map op_line first) (flat_map op_line (counts_among ts list)), one_short op (times_of (op_number op) ts), all_short ts list)

ops_short : (c : Cert) → length (ops_text (counts_of c)) ≤ 4640
unfolding ops_text counts_of
ops_short c = all_short c.traces OPS

head_short : (n steps : ℕ) → length (summary_head n steps) ≤ 256
unfolding summary_head
head_short n steps = simp length-append (omega (arith, decimal_short n, decimal_short steps))

end_short : (words : ℕ) → length (summary_end words) ≤ 256
unfolding summary_end
end_short words = simp length-append (omega (arith, decimal_short words))

pub summary_short : (n : ℕ) (c : Cert) → length (summary_text n c) < text_room
unfolding summary_text
summary_short n c = simp length-append (omega (arith, head_short n (steps_of c), ops_short c, end_short (length c.words)))
