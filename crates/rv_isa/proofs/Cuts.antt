-- Words, their parts, and the immediates that are cut over them.
use Rattle.std.proofs.Common.{◌≡◌, ℕ, ◌+◌, ◌-◌, ◌*◌, ◌%◌, ◌^◌, ◌<◌, ◌≤◌, cond, ltb, true, false, arith}
use Rattle.rv_isa.specs.declared.operation.Op.{Op}
use Rattle.rv_isa.specs.declared.instruction.Instr.{Instr}
use Rattle.rv_isa.specs.declared.parts.Parts.{Parts}
use Rattle.rv_isa.specs.Encoding.{bits, cut_of, word_of_parts, sign_extended}
use Rattle.rv_isa.specs.Reading.{AreParts, branch_imm, jump_imm}

-- Two records are equal if their fields are: `cc` sees that of a function of the fields that does not unfold.
parts_made : (funct7 rs2 rs1 funct3 rd opcode : ℕ) → Parts
parts_made a b c d e f = record { funct7 = a; rs2 = b; rs1 = c; funct3 = d; rd = e; opcode = f }

same_parts_made : (p q : Parts) → p.funct7 ≡ q.funct7 → p.rs2 ≡ q.rs2 → p.rs1 ≡ q.rs1 → p.funct3 ≡ q.funct3 → p.rd ≡ q.rd → p.opcode ≡ q.opcode → parts_made p.funct7 p.rs2 p.rs1 p.funct3 p.rd p.opcode ≡ parts_made q.funct7 q.rs2 q.rs1 q.funct3 q.rd q.opcode
same_parts_made p q a b c d e f = cc

pub same_parts : (p q : Parts) → p.funct7 ≡ q.funct7 → p.rs2 ≡ q.rs2 → p.rs1 ≡ q.rs1 → p.funct3 ≡ q.funct3 → p.rd ≡ q.rd → p.opcode ≡ q.opcode → p ≡ q
unfolding parts_made
same_parts p q a b c d e f = same_parts_made p q a b c d e f

instr_made : Op → (rd rs1 rs2 imm csr : ℕ) → Instr
instr_made op a b c d e = record { op = op; rd = a; rs1 = b; rs2 = c; imm = d; csr = e }

same_instr_made : (i j : Instr) → i.op ≡ j.op → i.rd ≡ j.rd → i.rs1 ≡ j.rs1 → i.rs2 ≡ j.rs2 → i.imm ≡ j.imm → i.csr ≡ j.csr → instr_made i.op i.rd i.rs1 i.rs2 i.imm i.csr ≡ instr_made j.op j.rd j.rs1 j.rs2 j.imm j.csr
same_instr_made i j a b c d e f = cc

pub same_instr : (i j : Instr) → i.op ≡ j.op → i.rd ≡ j.rd → i.rs1 ≡ j.rs1 → i.rs2 ≡ j.rs2 → i.imm ≡ j.imm → i.csr ≡ j.csr → i ≡ j
unfolding instr_made
same_instr i j a b c d e f = same_instr_made i j a b c d e f

-- a word has one cut
pub one_cut : (p q : Parts) → AreParts p → AreParts q → word_of_parts p ≡ word_of_parts q → p ≡ q
one_cut p q h k e = same_parts p q (omega arith) (omega arith) (omega arith) (omega arith) (omega arith) (omega arith)

pub word_of_cut : (w : ℕ) → w < 2 ^ 32 → word_of_parts (cut_of w) ≡ w
word_of_cut w h = omega arith

pub cut_narrow : (w : ℕ) → AreParts (cut_of w)
cut_narrow w = record { funct7 = omega arith; rs2 = omega arith; rs1 = omega arith; funct3 = omega arith; rd = omega arith; opcode = omega arith }

pub parts_below : (p : Parts) → AreParts p → word_of_parts p < 2 ^ 32
parts_below p h = omega arith

-- the parts of an immediate are its low bits again
pub joined_12 : (n : ℕ) → bits n 11 5 * 2 ^ 5 + bits n 4 0 ≡ n % 2 ^ 12
joined_12 n = omega arith

pub joined_13 : (n : ℕ) (p : Parts) → n % 2 ≡ 0 → p.funct7 ≡ bits n 12 12 * 2 ^ 6 + bits n 10 5 → p.rd ≡ bits n 4 1 * 2 + bits n 11 11 → branch_imm p ≡ n % 2 ^ 13
joined_13 n p even high low = omega arith

pub joined_21 : (n : ℕ) (p : Parts) → n % 2 ≡ 0 → p.funct7 ≡ bits n 20 20 * 2 ^ 6 + bits n 10 5 → p.rs2 ≡ bits n 4 1 * 2 + bits n 11 11 → p.rs1 ≡ bits n 19 15 → p.funct3 ≡ bits n 14 12 → jump_imm p ≡ n % 2 ^ 21
joined_21 n p even high low upper lower = omega arith

-- extending the sign keeps the low bits
pub low_12 : (n : ℕ) → n < 2 ^ 12 → sign_extended 12 n % 2 ^ 12 ≡ n
low_12 n h = elim (ltb n (2 ^ 11)) as (λ b. cond b n (n + (2 ^ 32 - 2 ^ 12)) % 2 ^ 12 ≡ n) [ true ↦ omega arith | false ↦ omega arith ]

pub low_13 : (n : ℕ) → n < 2 ^ 13 → sign_extended 13 n % 2 ^ 13 ≡ n
low_13 n h = elim (ltb n (2 ^ 12)) as (λ b. cond b n (n + (2 ^ 32 - 2 ^ 13)) % 2 ^ 13 ≡ n) [ true ↦ omega arith | false ↦ omega arith ]

pub low_21 : (n : ℕ) → n < 2 ^ 21 → sign_extended 21 n % 2 ^ 21 ≡ n
low_21 n h = elim (ltb n (2 ^ 20)) as (λ b. cond b n (n + (2 ^ 32 - 2 ^ 21)) % 2 ^ 21 ≡ n) [ true ↦ omega arith | false ↦ omega arith ]

-- and gives a word
pub extended_below : (width n : ℕ) → n < 2 ^ width → 2 ^ width ≤ 2 ^ 32 → sign_extended width n < 2 ^ 32
extended_below width n h k = elim (ltb n (2 ^ (width - 1))) as (λ b. cond b n (n + (2 ^ 32 - 2 ^ width)) < 2 ^ 32) [ true ↦ omega arith | false ↦ omega arith ]

-- low bits that were gathered from parts go back to them
pub branch_parts : (p : Parts) (n : ℕ) → AreParts p → n % 2 ^ 13 ≡ branch_imm p → (bits n 12 12 * 2 ^ 6 + bits n 10 5 ≡ p.funct7) × (bits n 4 1 * 2 + bits n 11 11 ≡ p.rd)
branch_parts p n a e = (omega arith, omega arith)

pub jump_parts : (p : Parts) (n : ℕ) → AreParts p → n % 2 ^ 21 ≡ jump_imm p → (bits n 20 20 * 2 ^ 6 + bits n 10 5 ≡ p.funct7) × (bits n 4 1 * 2 + bits n 11 11 ≡ p.rs2) × (bits n 19 15 ≡ p.rs1) × (bits n 14 12 ≡ p.funct3)
jump_parts p n a e = (omega arith, omega arith, omega arith, omega arith)
