-- A word is read as an instruction exactly where the instruction has the word.
use Rattle.std.proofs.Common.{◌≡◌, ℕ, ◌<◌, ◌^◌, Bool, true, false, not, refl, sym, ap, ◌∙◌, subst, Option, Some, None, List, [], ◌∷◌, inl, inr, rules}
use Rattle.std.specs.List.{find}
use Rattle.std.specs.Option.{option_map, IfSome}
use Rattle.std.proofs.lemmas.Bool.{cases_Bool, cases_lt, lt-ltb, le-ltb, not_from_false, false_from_ne_true}
use Rattle.rv_isa.specs.declared.instruction.Instr.{Instr}
use Rattle.rv_isa.specs.declared.operation.Op.{Op}
use Rattle.rv_isa.specs.declared.operation.Op.TheVariants.{Lui}
use Rattle.rv_isa.specs.declared.operation.TheConstants.{OPS}
use Rattle.rv_isa.specs.declared.parts.Parts.{Parts}
use Rattle.rv_isa.specs.declared.table.Row.{Row}
use Rattle.rv_isa.specs.declared.table.Row.TheVariants.{R}
use Rattle.rv_isa.specs.Encoding.{IsEncoded, IsInRange, Fits, FitsRow, parts_of, cut_of, word_of, word_of_parts}
use Rattle.rv_isa.specs.Reading.{AreParts, IsNarrow, decoded, instr_of, is_row, read_from}
use Rattle.rv_isa.specs.Table.{row_of}
use Rattle.rv_isa.proofs.Cuts.{one_cut, word_of_cut, cut_narrow, parts_below}
use Rattle.rv_isa.proofs.Rows.{HasRow, fits_in_range, row_decides, instr_of-parts_of, parts_narrow, parts_have, instr_fits, parts_of-instr_of}
use Rattle.rv_isa.proofs.Apart.{clash, marks, features, no_clash, marked, first_alike}

-- what a search finds passes
find_passes : {X : Type 0} (p : X → Bool) (xs : List X) (x : X) → find p xs ≡ Some x → p x ≡ true
find_passes p [] x e = cc
find_passes p (y ∷ ys) x e = elim (cases_Bool (p y)) [
  | inl on ↦ let same : y ≡ x = (let f = rw on at e in cc) in rw (← same) on
  | inr off ↦ find_passes p ys x (rw off at e)
]

-- a search by a sharper test finds the same, if that passes
find_sharper : {X : Type 0} (sharp blunt : X → Bool) (xs : List X) (x : X) → sharp x ≡ true → ((y : X) → sharp y ≡ true → blunt y ≡ true) → find blunt xs ≡ Some x → find sharp xs ≡ Some x
find_sharper sharp blunt [] x s w e = e
find_sharper sharp blunt (y ∷ ys) x s w e = elim (cases_Bool (blunt y)) [
  | inl on ↦ let same : y ≡ x = (let f = rw on at e in cc) in rw (same, s) refl
  | inr off ↦ let fails : sharp y ≡ false = false_from_ne_true (sharp y) (λ t. let f = w y t in cc) in rw fails (find_sharper sharp blunt ys x s w (rw off at e))
]

row_narrow : (op : Op) → IsNarrow (row_of op)
row_narrow Lui = search rules
row_narrow _ = search rules

instr_of-op : (op : Op) (row : Row) (p : Parts) → (instr_of op row p).op ≡ op
instr_of-op op (R _ _ _) p = refl
instr_of-op op _ p = refl

-- a table's search by the row that parts have finds that row's operation
row_found : (op : Op) (p : Parts) → AreParts p → HasRow (row_of op) p → find (λ other. is_row (row_of other) p) OPS ≡ Some op
row_found op p a h =
    find_sharper (λ other. is_row (row_of other) p) (λ other. not (clash (marks (row_of other)) (marks (row_of op)))) OPS op
    ((row_decides (row_of op) p).1 h)
    (λ other t. not_from_false _ (no_clash (marks (row_of other)) (marks (row_of op)) (features p) (marked (row_of other) p a ((row_decides (row_of other) p).0 t)) (marked (row_of op) p a h)))
    (first_alike op)

read_found : (ops : List Op) (p : Parts) (i : Instr) → find (λ op. is_row (row_of op) p) ops ≡ Some i.op → instr_of i.op (row_of i.op) p ≡ i → read_from ops p ≡ Some i
read_found ops p i e f = ap (option_map (λ op. instr_of op (row_of op) p)) e ∙ ap Some f

-- an instruction has a word of 32 bits
pub encoded_below : (w : ℕ) (i : Instr) → IsEncoded i w → w < 2 ^ 32
encoded_below w i h = subst (λ (n : ℕ). n < 2 ^ 32) (sym h.word) (parts_below (parts_of (row_of i.op) i) (parts_narrow (row_of i.op) i (row_narrow i.op) h.fits))

-- the instruction that has a word is read from it
pub read_encoded : (w : ℕ) (i : Instr) → IsEncoded i w → decoded w ≡ Some i
unfolding decoded
read_encoded w i h =
    let p : Parts = parts_of (row_of i.op) i in
    let narrow : AreParts p = parts_narrow (row_of i.op) i (row_narrow i.op) h.fits in
    let below : w < 2 ^ 32 = encoded_below w i h in
    let same : p ≡ cut_of w = one_cut p (cut_of w) narrow (cut_narrow w) (sym h.word ∙ sym (word_of_cut w below)) in
    let read : read_from OPS p ≡ Some i = read_found OPS p i (row_found i.op p narrow (parts_have (row_of i.op) i (row_narrow i.op) h.fits)) (instr_of-parts_of (row_of i.op) i h.fits) in
    rw (lt-ltb w (2 ^ 32) below) (subst (λ (q : Parts). read_from OPS q ≡ Some i) same read)

-- what one row reads from a word has this word
row_encoded : (op : Op) (w : ℕ) (p : Parts) → AreParts p → word_of_parts p ≡ w → HasRow (row_of op) p → IsEncoded (instr_of op (row_of op) p) w
row_encoded op w p a e h =
    let i : Instr = instr_of op (row_of op) p in
    let same : op ≡ i.op = sym (instr_of-op op (row_of op) p) in
    let fits : Fits i = subst (λ (o : Op). FitsRow (row_of o) i) same (instr_fits op (row_of op) p a h) in
    let back : parts_of (row_of i.op) i ≡ p = subst (λ (o : Op). parts_of (row_of o) i ≡ p) same (parts_of-instr_of op (row_of op) p a h) in
    record { fits = fits; word = sym e ∙ sym (ap word_of_parts back) }

found_encoded : (ops : List Op) (o : Option Op) (w : ℕ) (p : Parts) (i : Instr) → AreParts p → word_of_parts p ≡ w → find (λ op. is_row (row_of op) p) ops ≡ o → option_map (λ op. instr_of op (row_of op) p) o ≡ Some i → IsEncoded i w
found_encoded ops None w p i a e f g = cc
found_encoded ops (Some op) w p i a e f g =
    let passes : is_row (row_of op) p ≡ true = find_passes (λ op. is_row (row_of op) p) ops op f in
    let same : instr_of op (row_of op) p ≡ i = cc in
    subst (λ (j : Instr). IsEncoded j w) same (row_encoded op w p a e ((row_decides (row_of op) p).0 passes))

-- the instruction that is read from a word has it
pub encoded_read : (w : ℕ) (i : Instr) → decoded w ≡ Some i → IsEncoded i w
unfolding decoded
encoded_read w i h = elim (cases_lt w (2 ^ 32)) [
  | inl below ↦ found_encoded OPS _ w (cut_of w) i (cut_narrow w) (word_of_cut w below) refl (rw (lt-ltb w (2 ^ 32) below) at h)
  | inr above ↦ (let none = rw (le-ltb w (2 ^ 32) above) at h in cc)
]

-- an instruction whose fields fit has a word, and its fields are in range
pub fitting_encoded : (i : Instr) → Fits i → IsEncoded i (word_of i)
fitting_encoded i h = record { fits = h; word = refl }

pub fitting_in_range : (i : Instr) → Fits i → IsInRange i
fitting_in_range i h = fits_in_range (row_of i.op) i h

-- the code's reading of a word, by which a call of it has the laws
pub word_read : (w : ℕ) → w < 2 ^ 32 → read_from OPS (cut_of w) ≡ decoded w
unfolding decoded
word_read w below = rw (lt-ltb w (2 ^ 32) below) refl

pub IfSome-decoded : (w : ℕ) (o : Option Instr) → o ≡ decoded w → IfSome o (λ i. IsEncoded i w)
IfSome-decoded w None e = tt
IfSome-decoded w (Some i) e = encoded_read w i (sym e)

pub IfSome-in_range : (w : ℕ) (o : Option Instr) → o ≡ decoded w → IfSome o IsInRange
IfSome-in_range w None e = tt
IfSome-in_range w (Some i) e = fitting_in_range i (encoded_read w i (sym e)).fits
