-- Reading undoes writing, row by row.
use Rattle.std.proofs.Common.{◌≡◌, ℕ, ◌+◌, ◌*◌, ◌%◌, ◌^◌, ◌<◌, ◌⊎◌, inl, inr, nat_eq, ◌&&◌, arith, refl, ap, ◌∙◌, sym}
use Rattle.std.specs.Bool.{Decides}
use Rattle.std.proofs.lemmas.Bool.Decides.{Decides-eqb, Decides-ltb, Decides-and, Decides-or}
use Rattle.rv_isa.specs.declared.operation.Op.{Op}
use Rattle.rv_isa.specs.declared.instruction.Instr.{Instr}
use Rattle.rv_isa.specs.declared.parts.Parts.{Parts}
use Rattle.rv_isa.specs.declared.table.Row.{Row}
use Rattle.rv_isa.specs.declared.table.Row.TheVariants.{R, I, Shift, S, B, U, J, Csr, CsrImmediate, FenceSets, AddressFence, Fixed, DefinedIllegal}
use Rattle.rv_isa.specs.Encoding.{word_of_parts, parts_of, sign_extended, FitsRow, IsInRange}
use Rattle.rv_isa.specs.Reading.{AreParts, IsNarrow, is_row, instr_of, branch_imm, jump_imm}
use Rattle.rv_isa.proofs.Cuts.{extended_below, same_parts, same_instr, word_of_cut, joined_12, joined_13, joined_21, low_12, low_13, low_21, branch_parts, jump_parts}

-- what a row fixes in the parts of a word
abbrev pub HasRow : Row → Parts → Type 0
HasRow (R o f g) p = ((p.opcode ≡ o) × (p.funct3 ≡ f)) × (p.funct7 ≡ g)
HasRow (I o f) p = (p.opcode ≡ o) × (p.funct3 ≡ f)
HasRow (S o f) p = (p.opcode ≡ o) × (p.funct3 ≡ f)
HasRow (B o f) p = (p.opcode ≡ o) × (p.funct3 ≡ f)
HasRow (U o) p = p.opcode ≡ o
HasRow (J o) p = p.opcode ≡ o
HasRow (Shift o f g) p = ((p.opcode ≡ o) × (p.funct3 ≡ f)) × (p.funct7 ≡ g)
HasRow (Csr o f) p = (p.opcode ≡ o) × (p.funct3 ≡ f)
HasRow (CsrImmediate o f) p = (p.opcode ≡ o) × (p.funct3 ≡ f)
HasRow (FenceSets o f) p = ((((p.opcode ≡ o) × (p.funct3 ≡ f)) × (p.rd ≡ 0)) × (p.rs1 ≡ 0)) × (p.funct7 < 8)
HasRow (AddressFence o f g) p = (((p.opcode ≡ o) × (p.funct3 ≡ f)) × (p.funct7 ≡ g)) × (p.rd ≡ 0)
HasRow (Fixed w) p = word_of_parts p ≡ w
HasRow DefinedIllegal p = (word_of_parts p ≡ 0) ⊎ (word_of_parts p ≡ 0xffff_ffff)

two_tests : (a b c d : ℕ) → Decides (nat_eq a b && nat_eq c d) ((a ≡ b) × (c ≡ d))
two_tests a b c d = Decides-and _ _ (Decides-eqb a b) (Decides-eqb c d)

pub row_decides : (row : Row) (p : Parts) → Decides (is_row row p) (HasRow row p)
row_decides (R o f g) p = Decides-and _ _ (two_tests p.opcode o p.funct3 f) (Decides-eqb p.funct7 g)
row_decides (I o f) p = two_tests p.opcode o p.funct3 f
row_decides (S o f) p = two_tests p.opcode o p.funct3 f
row_decides (B o f) p = two_tests p.opcode o p.funct3 f
row_decides (U o) p = Decides-eqb p.opcode o
row_decides (J o) p = Decides-eqb p.opcode o
row_decides (Shift o f g) p = Decides-and _ _ (two_tests p.opcode o p.funct3 f) (Decides-eqb p.funct7 g)
row_decides (Csr o f) p = two_tests p.opcode o p.funct3 f
row_decides (CsrImmediate o f) p = two_tests p.opcode o p.funct3 f
row_decides (FenceSets o f) p = Decides-and _ _ (Decides-and _ _ (Decides-and _ _ (two_tests p.opcode o p.funct3 f) (Decides-eqb p.rd 0)) (Decides-eqb p.rs1 0)) (Decides-ltb p.funct7 8)
row_decides (AddressFence o f g) p = Decides-and _ _ (Decides-and _ _ (two_tests p.opcode o p.funct3 f) (Decides-eqb p.funct7 g)) (Decides-eqb p.rd 0)
row_decides (Fixed w) p = Decides-eqb (word_of_parts p) w
row_decides DefinedIllegal p = Decides-or _ _ (Decides-eqb (word_of_parts p) 0) (Decides-eqb (word_of_parts p) 0xffff_ffff)

illegal_below : (n : ℕ) → (n ≡ 0) ⊎ (n ≡ 0xffff_ffff) → n < 2 ^ 32
illegal_below n h = elim h [ inl e ↦ omega arith | inr e ↦ omega arith ]

-- what was written is read
pub instr_of-parts_of : (row : Row) (i : Instr) → FitsRow row i → instr_of i.op row (parts_of row i) ≡ i
instr_of-parts_of (R o f g) i h = same_instr _ i refl refl refl refl (omega arith) (omega arith)
instr_of-parts_of (I o f) i h = same_instr _ i refl refl refl (omega arith) (ap (sign_extended 12) (joined_12 i.imm) ∙ sym h.3) (omega arith)
instr_of-parts_of (S o f) i h = same_instr _ i refl (omega arith) refl refl (ap (sign_extended 12) (joined_12 i.imm) ∙ sym h.3) (omega arith)
instr_of-parts_of (B o f) i h = same_instr _ i refl (omega arith) refl refl (ap (sign_extended 13) (joined_13 i.imm (parts_of (B o f) i) h.4 refl refl) ∙ sym h.3) (omega arith)
instr_of-parts_of (U o) i h = same_instr _ i refl refl (omega arith) (omega arith) (omega arith) (omega arith)
instr_of-parts_of (J o) i h = same_instr _ i refl refl (omega arith) (omega arith) (ap (sign_extended 21) (joined_21 i.imm (parts_of (J o) i) h.4 refl refl refl refl) ∙ sym h.3) (omega arith)
instr_of-parts_of (Shift o f g) i h = same_instr _ i refl refl refl (omega arith) refl (omega arith)
instr_of-parts_of (Csr o f) i h = same_instr _ i refl refl refl (omega arith) (omega arith) (omega arith)
instr_of-parts_of (CsrImmediate o f) i h = same_instr _ i refl refl (omega arith) (omega arith) refl (omega arith)
instr_of-parts_of (FenceSets o f) i h = same_instr _ i refl (omega arith) (omega arith) (omega arith) (omega arith) (omega arith)
instr_of-parts_of (AddressFence o f g) i h = same_instr _ i refl (omega arith) refl refl (omega arith) (omega arith)
instr_of-parts_of (Fixed w) i h = same_instr _ i refl (omega arith) (omega arith) (omega arith) (omega arith) (omega arith)
instr_of-parts_of DefinedIllegal i h = same_instr _ i refl (omega arith) (omega arith) (omega arith) (word_of_cut i.imm (illegal_below i.imm h.3)) (omega arith)

-- an instruction's parts are as narrow as their places
pub parts_narrow : (row : Row) (i : Instr) → IsNarrow row → FitsRow row i → AreParts (parts_of row i)
parts_narrow (R o f g) i r h = record { funct7 = omega arith; rs2 = omega arith; rs1 = omega arith; funct3 = omega arith; rd = omega arith; opcode = omega arith }
parts_narrow _ i r h = record { funct7 = omega arith; rs2 = omega arith; rs1 = omega arith; funct3 = omega arith; rd = omega arith; opcode = omega arith }

-- what was written is recognised
pub parts_have : (row : Row) (i : Instr) → IsNarrow row → FitsRow row i → HasRow row (parts_of row i)
parts_have (R o f g) i r h = ((refl, refl), refl)
parts_have (I o f) i r h = (refl, refl)
parts_have (S o f) i r h = (refl, refl)
parts_have (B o f) i r h = (refl, refl)
parts_have (U o) i r h = refl
parts_have (J o) i r h = refl
parts_have (Shift o f g) i r h = ((refl, refl), refl)
parts_have (Csr o f) i r h = (refl, refl)
parts_have (CsrImmediate o f) i r h = (refl, refl)
parts_have (FenceSets o f) i r h = ((((refl, refl), refl), refl), omega arith)
parts_have (AddressFence o f g) i r h = (((refl, refl), refl), refl)
parts_have (Fixed w) i r h = word_of_cut w r
parts_have DefinedIllegal i r h = elim h.3 [ inl e ↦ inl (omega arith) | inr e ↦ inr (omega arith) ]

-- the fields that a row reads fit it
pub instr_fits : (op : Op) (row : Row) (p : Parts) → AreParts p → HasRow row p → FitsRow row (instr_of op row p)
instr_fits op (R o f g) p a h = (omega arith, omega arith, omega arith, refl, refl)
instr_fits op (I o f) p a h =
    let low : sign_extended 12 (p.funct7 * 2 ^ 5 + p.rs2) % 2 ^ 12 ≡ p.funct7 * 2 ^ 5 + p.rs2 = low_12 _ (omega arith) in
    (omega arith, omega arith, refl, sym (ap (sign_extended 12) low), refl)
instr_fits op (S o f) p a h =
    let low : sign_extended 12 (p.funct7 * 2 ^ 5 + p.rd) % 2 ^ 12 ≡ p.funct7 * 2 ^ 5 + p.rd = low_12 _ (omega arith) in
    (refl, omega arith, omega arith, sym (ap (sign_extended 12) low), refl)
instr_fits op (B o f) p a h =
    let low : sign_extended 13 (branch_imm p) % 2 ^ 13 ≡ branch_imm p = low_13 _ (omega arith) in
    (refl, omega arith, omega arith, sym (ap (sign_extended 13) low), omega arith, refl)
instr_fits op (U o) p a h = (omega arith, refl, refl, omega arith, omega arith, refl)
instr_fits op (J o) p a h =
    let low : sign_extended 21 (jump_imm p) % 2 ^ 21 ≡ jump_imm p = low_21 _ (omega arith) in
    (omega arith, refl, refl, sym (ap (sign_extended 21) low), omega arith, refl)
instr_fits op (Shift o f g) p a h = (omega arith, omega arith, refl, omega arith, refl)
instr_fits op (Csr o f) p a h = (omega arith, omega arith, refl, refl, omega arith)
instr_fits op (CsrImmediate o f) p a h = (omega arith, refl, refl, omega arith, omega arith)
instr_fits op (FenceSets o f) p a h = (refl, refl, refl, omega arith, refl)
instr_fits op (AddressFence o f g) p a h = (refl, omega arith, omega arith, refl, refl)
instr_fits op (Fixed w) p a h = (refl, refl, refl, refl, refl)
instr_fits op DefinedIllegal p a h = (refl, refl, refl, h, refl)

-- what was read is written back
pub parts_of-instr_of : (op : Op) (row : Row) (p : Parts) → AreParts p → HasRow row p → parts_of row (instr_of op row p) ≡ p
parts_of-instr_of op (R o f g) p a h = same_parts _ p (omega arith) refl refl (omega arith) refl (omega arith)
parts_of-instr_of op (I o f) p a h =
    let low : sign_extended 12 (p.funct7 * 2 ^ 5 + p.rs2) % 2 ^ 12 ≡ p.funct7 * 2 ^ 5 + p.rs2 = low_12 _ (omega arith) in
    same_parts _ p (omega arith) (omega arith) refl (omega arith) refl (omega arith)
parts_of-instr_of op (S o f) p a h =
    let low : sign_extended 12 (p.funct7 * 2 ^ 5 + p.rd) % 2 ^ 12 ≡ p.funct7 * 2 ^ 5 + p.rd = low_12 _ (omega arith) in
    same_parts _ p (omega arith) refl refl (omega arith) (omega arith) (omega arith)
parts_of-instr_of op (B o f) p a h =
    let back = branch_parts p (sign_extended 13 (branch_imm p)) a (low_13 _ (omega arith)) in
    same_parts _ p back.0 refl refl (omega arith) back.1 (omega arith)
parts_of-instr_of op (U o) p a h = same_parts _ p (omega arith) (omega arith) (omega arith) (omega arith) refl (omega arith)
parts_of-instr_of op (J o) p a h =
    let back = jump_parts p (sign_extended 21 (jump_imm p)) a (low_21 _ (omega arith)) in
    same_parts _ p back.0 back.1 back.2 back.3 refl (omega arith)
parts_of-instr_of op (Shift o f g) p a h = same_parts _ p (omega arith) refl refl (omega arith) refl (omega arith)
parts_of-instr_of op (Csr o f) p a h = same_parts _ p (omega arith) (omega arith) refl (omega arith) refl (omega arith)
parts_of-instr_of op (CsrImmediate o f) p a h = same_parts _ p (omega arith) (omega arith) refl (omega arith) refl (omega arith)
parts_of-instr_of op (FenceSets o f) p a h = same_parts _ p (omega arith) (omega arith) (omega arith) (omega arith) (omega arith) (omega arith)
parts_of-instr_of op (AddressFence o f g) p a h = same_parts _ p (omega arith) refl refl (omega arith) (omega arith) (omega arith)
parts_of-instr_of op (Fixed w) p a h = same_parts _ p (omega arith) (omega arith) (omega arith) (omega arith) (omega arith) (omega arith)
parts_of-instr_of op DefinedIllegal p a h = same_parts _ p (omega arith) (omega arith) (omega arith) (omega arith) (omega arith) (omega arith)

-- fields that fit a row are in range
pub fits_in_range : (row : Row) (i : Instr) → FitsRow row i → IsInRange i
fits_in_range (I o f) i h = record { rd = h.0; rs1 = h.1; rs2 = omega arith; imm = rw h.3 (extended_below 12 (i.imm % 2 ^ 12) (omega arith) (omega arith)); csr = omega arith }
fits_in_range (S o f) i h = record { rd = omega arith; rs1 = h.1; rs2 = h.2; imm = rw h.3 (extended_below 12 (i.imm % 2 ^ 12) (omega arith) (omega arith)); csr = omega arith }
fits_in_range (B o f) i h = record { rd = omega arith; rs1 = h.1; rs2 = h.2; imm = rw h.3 (extended_below 13 (i.imm % 2 ^ 13) (omega arith) (omega arith)); csr = omega arith }
fits_in_range (J o) i h = record { rd = h.0; rs1 = omega arith; rs2 = omega arith; imm = rw h.3 (extended_below 21 (i.imm % 2 ^ 21) (omega arith) (omega arith)); csr = omega arith }
fits_in_range DefinedIllegal i h = record { rd = omega arith; rs1 = omega arith; rs2 = omega arith; imm = illegal_below i.imm h.3; csr = omega arith }
fits_in_range _ i h = record { rd = omega arith; rs1 = omega arith; rs2 = omega arith; imm = omega arith; csr = omega arith }
