-- No two operations have a word in common.
use Rattle.std.proofs.Common.{◌≡◌, ℕ, ◌⊎◌, inl, inr, Bool, false, not, ◌||◌, cond, eqb, refl, sym, ap, ◌∙◌, arith, List, [], ◌∷◌, Some}
use Rattle.std.specs.List.{find}
use Rattle.std.proofs.lemmas.Bool.{eq-eqb}
use Rattle.rv_isa.specs.declared.operation.Op.{Op}
use Rattle.rv_isa.specs.declared.operation.Op.TheVariants.{Lui}
use Rattle.rv_isa.specs.declared.operation.TheConstants.{OPS}
use Rattle.rv_isa.specs.declared.parts.Parts.{Parts}
use Rattle.rv_isa.specs.declared.table.Row.{Row}
use Rattle.rv_isa.specs.declared.table.Row.TheVariants.{R, I, Shift, S, B, U, J, Csr, CsrImmediate, FenceSets, AddressFence, Fixed, DefinedIllegal}
use Rattle.rv_isa.specs.Encoding.{bits, word_of_parts}
use Rattle.rv_isa.specs.Reading.{AreParts}
use Rattle.rv_isa.specs.Table.{row_of}
use Rattle.rv_isa.proofs.Rows.{HasRow}

-- 1 for the opcode of a word of all zeros or all ones
pub end_bit : ℕ → ℕ
end_bit opcode = cond (eqb opcode 0 || eqb opcode 127) 1 0

-- what a row fixes of a word's features, as far as their order allows
abbrev pub marks : Row → List ℕ
marks (R o f g) = end_bit o ∷ o ∷ f ∷ g ∷ []
marks (I o f) = end_bit o ∷ o ∷ f ∷ []
marks (S o f) = end_bit o ∷ o ∷ f ∷ []
marks (B o f) = end_bit o ∷ o ∷ f ∷ []
marks (U o) = end_bit o ∷ o ∷ []
marks (J o) = end_bit o ∷ o ∷ []
marks (Shift o f g) = end_bit o ∷ o ∷ f ∷ g ∷ []
marks (Csr o f) = end_bit o ∷ o ∷ f ∷ []
marks (CsrImmediate o f) = end_bit o ∷ o ∷ f ∷ []
marks (FenceSets o f) = end_bit o ∷ o ∷ f ∷ []
marks (AddressFence o f g) = end_bit o ∷ o ∷ f ∷ g ∷ []
marks (Fixed w) = end_bit (bits w 6 0) ∷ bits w 6 0 ∷ bits w 14 12 ∷ bits w 31 25 ∷ bits w 24 20 ∷ []
marks DefinedIllegal = 1 ∷ []

abbrev pub features : Parts → List ℕ
features p = end_bit p.opcode ∷ p.opcode ∷ p.funct3 ∷ p.funct7 ∷ p.rs2 ∷ []

-- the features begin with the marks
abbrev pub Agrees : List ℕ → List ℕ → Type 0
Agrees [] vs = Unit {0}
Agrees (m ∷ ms) [] = ⊥
Agrees (m ∷ ms) (v ∷ vs) = (v ≡ m) × Agrees ms vs

-- two lists of marks differ in a place that both have
abbrev pub clash : List ℕ → List ℕ → Bool
clash [] ns = false
clash (m ∷ ms) [] = false
clash (m ∷ ms) (n ∷ ns) = not (eqb m n) || clash ms ns

-- then no features have both
pub no_clash : (ms ns vs : List ℕ) → Agrees ms vs → Agrees ns vs → clash ms ns ≡ false
no_clash [] ns vs g h = refl
no_clash (m ∷ ms) [] vs g h = refl
no_clash (m ∷ ms) (n ∷ ns) [] g h = absurd g
no_clash (m ∷ ms) (n ∷ ns) (v ∷ vs) g h =
    rw (eq-eqb m n (sym g.0 ∙ h.0), no_clash ms ns vs g.1 h.1) refl

illegal_end : (p : Parts) → AreParts p → (word_of_parts p ≡ 0) ⊎ (word_of_parts p ≡ 0xffff_ffff) → end_bit p.opcode ≡ 1
unfolding end_bit
illegal_end p a h = elim h [
  | inl e ↦ let o : p.opcode ≡ 0 = omega arith in rw o refl
  | inr e ↦ let o : p.opcode ≡ 127 = omega arith in rw o refl
]

-- the features of a word have the marks of its row
pub marked : (row : Row) (p : Parts) → AreParts p → HasRow row p → Agrees (marks row) (features p)
marked (R o f g) p a h = (ap end_bit h.0.0, (h.0.0, (h.0.1, (h.1, tt))))
marked (I o f) p a h = (ap end_bit h.0, (h.0, (h.1, tt)))
marked (S o f) p a h = (ap end_bit h.0, (h.0, (h.1, tt)))
marked (B o f) p a h = (ap end_bit h.0, (h.0, (h.1, tt)))
marked (U o) p a h = (ap end_bit h, (h, tt))
marked (J o) p a h = (ap end_bit h, (h, tt))
marked (Shift o f g) p a h = (ap end_bit h.0.0, (h.0.0, (h.0.1, (h.1, tt))))
marked (Csr o f) p a h = (ap end_bit h.0, (h.0, (h.1, tt)))
marked (CsrImmediate o f) p a h = (ap end_bit h.0, (h.0, (h.1, tt)))
marked (FenceSets o f) p a h = (ap end_bit h.0.0.0.0, (h.0.0.0.0, (h.0.0.0.1, tt)))
marked (AddressFence o f g) p a h = (ap end_bit h.0.0.0, (h.0.0.0, (h.0.0.1, (h.0.1, tt))))
marked (Fixed w) p a h =
    let o : p.opcode ≡ bits w 6 0 = omega arith in
    (ap end_bit o, (o, (omega arith, (omega arith, (omega arith, tt)))))
marked DefinedIllegal p a h = (illegal_end p a h, tt)

-- the first operation of the table whose marks do not clash with those of an operation is that operation
pub first_alike : (op : Op) → find (λ other. not (clash (marks (row_of other)) (marks (row_of op)))) OPS ≡ Some op
unfolding end_bit
first_alike Lui = refl
first_alike _ = refl
