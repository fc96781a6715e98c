-- The fields of the fetched word.
use Rattle.std.proofs.Common.{◌≡◌, ℕ, ◌^◌, ◌⊎◌, ◌||◌, Bool, true, eqb, ltb, Option, Some, None, refl, sym, ap, ◌∙◌, subst, inl, inr}
use Rattle.std.proofs.lemmas.Bool.{eq-eqb, eqb-true, and_parts, and_from, lt-ltb, ltb-true, cases_Bool}
use Rattle.rv_isa.specs.declared.instruction.Instr.{Instr}
use Rattle.rv_isa.specs.declared.operation.Op.{Op}
use Rattle.rv_isa.specs.declared.table.Row.{Row}
use Rattle.rv_isa.specs.declared.table.Row.TheVariants.{R, I, Shift, S, B, U, J, Csr as CsrRow, CsrImmediate, FenceSets, AddressFence, Fixed as Whole, DefinedIllegal}
use Rattle.rv_isa.specs.Encoding.{Fits as FitsFields, FitsRow, word_of}
use Rattle.rv_isa.specs.Fields.{has_csr, has_rd, has_rs1, has_rs2}
use Rattle.rv_isa.specs.Reading.{decoded}
use Rattle.rv_isa.specs.Table.{row_of}
use Rattle.rv_isa.proofs.Codec.{encoded_read, fitting_encoded, read_encoded}
use Rattle.rv_isa.proofs.Cuts.{same_instr}
use Rattle.fd_prob.specs.declared.slot.Slot.TheVariants as slots
use Rattle.rv_script.specs.Logs.{value_or}
use Rattle.leaf_link.specs.Values.{Values, instr_in}
use Rattle.rv_isa.specs.Numbers.{op_number}
use Rattle.leaf_link.specs.Cases.{or_no, is_imm, field_of, in_read, in_word}
use Rattle.leaf_link.proofs.Numbers.{same_op}

-- the fields are in the domains of a row
pub record InRow (row : Row) (i : Instr) : Type 0 where
  pub rs1 : or_no (has_rs1 row) (ltb i.rs1 32) i.rs1 ≡ true
  pub rs2 : or_no (has_rs2 row) (ltb i.rs2 32) i.rs2 ≡ true
  pub imm : is_imm row i.imm ≡ true
  pub rd : or_no (has_rd row) (ltb i.rd 32) i.rd ≡ true
  pub csr : or_no (has_csr row) (ltb i.csr (2 ^ 12)) i.csr ≡ true

either_imm : (v : ℕ) → (eqb v 0 || eqb v 0xffff_ffff) ≡ true → (v ≡ 0) ⊎ (v ≡ 0xffff_ffff)
either_imm v h = elim (cases_Bool (eqb v 0)) [
  | inl y ↦ inl (eqb-true _ _ y)
  | inr n ↦ inr (eqb-true _ _ (subst (λ (b : Bool). (b || eqb v 0xffff_ffff) ≡ true) n h))
]

imm_either : (v : ℕ) → (v ≡ 0) ⊎ (v ≡ 0xffff_ffff) → (eqb v 0 || eqb v 0xffff_ffff) ≡ true
imm_either v h = elim h [
  | inl y ↦ ap (λ (b : Bool). b || eqb v 0xffff_ffff) (eq-eqb v 0 y)
  | inr n ↦ elim (cases_Bool (eqb v 0)) [
    | inl y ↦ ap (λ (b : Bool). b || eqb v 0xffff_ffff) y
    | inr m ↦ ap (λ (b : Bool). b || eqb v 0xffff_ffff) m ∙ eq-eqb v 0xffff_ffff n
  ]
]

pub row_fits : (row : Row) (i : Instr) → InRow row i → FitsRow row i
row_fits (R opcode funct3 funct7) i h = (ltb-true _ _ h.rd, ltb-true _ _ h.rs1, ltb-true _ _ h.rs2, eqb-true _ _ h.imm, eqb-true _ _ h.csr)
row_fits (I opcode funct3) i h = (ltb-true _ _ h.rd, ltb-true _ _ h.rs1, eqb-true _ _ h.rs2, eqb-true _ _ h.imm, eqb-true _ _ h.csr)
row_fits (S opcode funct3) i h = (eqb-true _ _ h.rd, ltb-true _ _ h.rs1, ltb-true _ _ h.rs2, eqb-true _ _ h.imm, eqb-true _ _ h.csr)
row_fits (B opcode funct3) i h = let m = and_parts _ _ h.imm in (eqb-true _ _ h.rd, ltb-true _ _ h.rs1, ltb-true _ _ h.rs2, eqb-true _ _ m.0, eqb-true _ _ m.1, eqb-true _ _ h.csr)
row_fits (U opcode) i h = let m = and_parts _ _ h.imm in (ltb-true _ _ h.rd, eqb-true _ _ h.rs1, eqb-true _ _ h.rs2, ltb-true _ _ m.0, eqb-true _ _ m.1, eqb-true _ _ h.csr)
row_fits (J opcode) i h = let m = and_parts _ _ h.imm in (ltb-true _ _ h.rd, eqb-true _ _ h.rs1, eqb-true _ _ h.rs2, eqb-true _ _ m.0, eqb-true _ _ m.1, eqb-true _ _ h.csr)
row_fits (Shift opcode funct3 funct7) i h = (ltb-true _ _ h.rd, ltb-true _ _ h.rs1, eqb-true _ _ h.rs2, ltb-true _ _ h.imm, eqb-true _ _ h.csr)
row_fits (CsrRow opcode funct3) i h = (ltb-true _ _ h.rd, ltb-true _ _ h.rs1, eqb-true _ _ h.rs2, eqb-true _ _ h.imm, ltb-true _ _ h.csr)
row_fits (CsrImmediate opcode funct3) i h = (ltb-true _ _ h.rd, eqb-true _ _ h.rs1, eqb-true _ _ h.rs2, ltb-true _ _ h.imm, ltb-true _ _ h.csr)
row_fits (FenceSets opcode funct3) i h = (eqb-true _ _ h.rd, eqb-true _ _ h.rs1, eqb-true _ _ h.rs2, ltb-true _ _ h.imm, eqb-true _ _ h.csr)
row_fits (AddressFence opcode funct3 funct7) i h = (eqb-true _ _ h.rd, ltb-true _ _ h.rs1, ltb-true _ _ h.rs2, eqb-true _ _ h.imm, eqb-true _ _ h.csr)
row_fits (Whole bits) i h = (eqb-true _ _ h.rd, eqb-true _ _ h.rs1, eqb-true _ _ h.rs2, eqb-true _ _ h.imm, eqb-true _ _ h.csr)
row_fits DefinedIllegal i h = (eqb-true _ _ h.rd, eqb-true _ _ h.rs1, eqb-true _ _ h.rs2, either_imm _ h.imm, eqb-true _ _ h.csr)

pub fits_row : (row : Row) (i : Instr) → FitsRow row i → InRow row i
fits_row (R opcode funct3 funct7) i h = record { rd = lt-ltb _ _ h.0; rs1 = lt-ltb _ _ h.1; rs2 = lt-ltb _ _ h.2; imm = eq-eqb _ _ h.3; csr = eq-eqb _ _ h.4 }
fits_row (I opcode funct3) i h = record { rd = lt-ltb _ _ h.0; rs1 = lt-ltb _ _ h.1; rs2 = eq-eqb _ _ h.2; imm = eq-eqb _ _ h.3; csr = eq-eqb _ _ h.4 }
fits_row (S opcode funct3) i h = record { rd = eq-eqb _ _ h.0; rs1 = lt-ltb _ _ h.1; rs2 = lt-ltb _ _ h.2; imm = eq-eqb _ _ h.3; csr = eq-eqb _ _ h.4 }
fits_row (B opcode funct3) i h = record { rd = eq-eqb _ _ h.0; rs1 = lt-ltb _ _ h.1; rs2 = lt-ltb _ _ h.2; imm = and_from _ _ (eq-eqb _ _ h.3) (eq-eqb _ _ h.4); csr = eq-eqb _ _ h.5 }
fits_row (U opcode) i h = record { rd = lt-ltb _ _ h.0; rs1 = eq-eqb _ _ h.1; rs2 = eq-eqb _ _ h.2; imm = and_from _ _ (lt-ltb _ _ h.3) (eq-eqb _ _ h.4); csr = eq-eqb _ _ h.5 }
fits_row (J opcode) i h = record { rd = lt-ltb _ _ h.0; rs1 = eq-eqb _ _ h.1; rs2 = eq-eqb _ _ h.2; imm = and_from _ _ (eq-eqb _ _ h.3) (eq-eqb _ _ h.4); csr = eq-eqb _ _ h.5 }
fits_row (Shift opcode funct3 funct7) i h = record { rd = lt-ltb _ _ h.0; rs1 = lt-ltb _ _ h.1; rs2 = eq-eqb _ _ h.2; imm = lt-ltb _ _ h.3; csr = eq-eqb _ _ h.4 }
fits_row (CsrRow opcode funct3) i h = record { rd = lt-ltb _ _ h.0; rs1 = lt-ltb _ _ h.1; rs2 = eq-eqb _ _ h.2; imm = eq-eqb _ _ h.3; csr = lt-ltb _ _ h.4 }
fits_row (CsrImmediate opcode funct3) i h = record { rd = lt-ltb _ _ h.0; rs1 = eq-eqb _ _ h.1; rs2 = eq-eqb _ _ h.2; imm = lt-ltb _ _ h.3; csr = lt-ltb _ _ h.4 }
fits_row (FenceSets opcode funct3) i h = record { rd = eq-eqb _ _ h.0; rs1 = eq-eqb _ _ h.1; rs2 = eq-eqb _ _ h.2; imm = lt-ltb _ _ h.3; csr = eq-eqb _ _ h.4 }
fits_row (AddressFence opcode funct3 funct7) i h = record { rd = eq-eqb _ _ h.0; rs1 = lt-ltb _ _ h.1; rs2 = lt-ltb _ _ h.2; imm = eq-eqb _ _ h.3; csr = eq-eqb _ _ h.4 }
fits_row (Whole bits) i h = record { rd = eq-eqb _ _ h.0; rs1 = eq-eqb _ _ h.1; rs2 = eq-eqb _ _ h.2; imm = eq-eqb _ _ h.3; csr = eq-eqb _ _ h.4 }
fits_row DefinedIllegal i h = record { rd = eq-eqb _ _ h.0; rs1 = eq-eqb _ _ h.1; rs2 = eq-eqb _ _ h.2; imm = imm_either _ h.3; csr = eq-eqb _ _ h.4 }

-- the fields of values are in the domains of an operation, where the word is known or not
pub record FieldsIn (o : Option ℕ) (op : Op) (x : Values) : Type 0 where
  pub op_in : in_word o op slots.Op (x slots.Op) ≡ true
  pub rs1_in : in_word o op slots.Rs1 (x slots.Rs1) ≡ true
  pub rs2_in : in_word o op slots.Rs2 (x slots.Rs2) ≡ true
  pub imm_in : in_word o op slots.Imm (x slots.Imm) ≡ true
  pub rd_in : in_word o op slots.Rd (x slots.Rd) ≡ true
  pub csr_in : in_word o op slots.Csr (x slots.Csr) ≡ true

word_fields : (o : Option Instr) (op : Op) (x : Values) → (instr_in x).op ≡ op → x slots.Op ≡ op_number op → in_read o slots.Op (x slots.Op) ≡ true → in_read o slots.Rs1 (x slots.Rs1) ≡ true → in_read o slots.Rs2 (x slots.Rs2) ≡ true
    → in_read o slots.Imm (x slots.Imm) ≡ true → in_read o slots.Rd (x slots.Rd) ≡ true → in_read o slots.Csr (x slots.Csr) ≡ true → o ≡ Some (instr_in x)
word_fields None op x e m n a r b d c = absurd (cc)
word_fields (Some i) op x e m n a r b d c =
    ap (λ (j : Instr). Some j) (same_instr i (instr_in x) (same_op i.op op (eqb-true _ _ n ∙ m) ∙ sym e) (eqb-true _ _ d) (eqb-true _ _ a) (eqb-true _ _ r) (eqb-true _ _ b) (eqb-true _ _ c))

pub fields_read : (o : Option ℕ) (op : Op) (x : Values) → (instr_in x).op ≡ op → x slots.Op ≡ op_number op → FieldsIn o op x → decoded (value_or o (word_of (instr_in x))) ≡ Some (instr_in x)
fields_read None op x e m f =
    let fits : FitsFields (instr_in x) = subst (λ (z : Op). FitsRow (row_of z) (instr_in x)) (sym e) (row_fits (row_of op) (instr_in x) (record { rs1 = f.rs1_in; rs2 = f.rs2_in; imm = f.imm_in; rd = f.rd_in; csr = f.csr_in })) in
    read_encoded (word_of (instr_in x)) (instr_in x) (fitting_encoded (instr_in x) fits)
fields_read (Some w) op x e m f = word_fields (decoded w) op x e m f.op_in f.rs1_in f.rs2_in f.imm_in f.rd_in f.csr_in

in_own : (o : Option Instr) (i : Instr) (n : ℕ) → o ≡ Some i → (v : ℕ) (s : _) → field_of i s ≡ v → in_read o s v ≡ true
in_own o i n e v s h = subst (λ (z : Option Instr). in_read z s v ≡ true) (sym e) (eq-eqb (field_of i s) v h)

pub read_fields : (o : Option ℕ) (op : Op) (x : Values) → (instr_in x).op ≡ op → x slots.Op ≡ op_number op → decoded (value_or o (word_of (instr_in x))) ≡ Some (instr_in x) → FieldsIn o op x
read_fields None op x e m d =
    let fits : FitsRow (row_of op) (instr_in x) = subst (λ (z : Op). FitsRow (row_of z) (instr_in x)) e (encoded_read (word_of (instr_in x)) (instr_in x) d).fits in
    let r = fits_row (row_of op) (instr_in x) fits in
    record { op_in = eq-eqb _ _ m; rs1_in = r.rs1; rs2_in = r.rs2; imm_in = r.imm; rd_in = r.rd; csr_in = r.csr }
read_fields (Some w) op x e m d =
    let own = in_own (decoded w) (instr_in x) 0 d in
    record { op_in = own (x slots.Op) slots.Op (ap op_number e ∙ sym m); rs1_in = own (x slots.Rs1) slots.Rs1 refl; rs2_in = own (x slots.Rs2) slots.Rs2 refl; imm_in = own (x slots.Imm) slots.Imm refl; rd_in = own (x slots.Rd) slots.Rd refl; csr_in = own (x slots.Csr) slots.Csr refl }
