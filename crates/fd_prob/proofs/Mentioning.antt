-- A relation looks only at the variables that it mentions.
use Rattle.std.proofs.Common.{◌≡◌, ℕ, ◌+◌, ◌-◌, ◌%◌, ◌^◌, Bool, true, false, not, ◌&&◌, ◌||◌, ◌==◌, List, [], ◌∷◌, Some, None, refl, ap, ◌∙◌, arith}
use Rattle.std.specs.Prelude.{if◌then◌else◌, slice_get}
use Rattle.std.specs.List.{list_any}
use Rattle.std.proofs.lemmas.Bool.Decides.{nat_tests}
use Rattle.dom_set.specs.Elements.{is_in}
use Rattle.rv_isa.specs.declared.operation.Op.{Op}
use Rattle.rv_isa.specs.declared.operation.Op.TheVariants.{Jal, Jalr, Csrrw, Csrrs, Csrrc, Csrrwi, Csrrsi, Csrrci}
use Rattle.rv_isa.specs.Arithmetic.{is_branch, is_taken}
use Rattle.fd_prob.specs.declared.problem.Assignment.{Assignment}
use Rattle.fd_prob.specs.declared.relation.Quad.{Quad}
use Rattle.fd_prob.specs.declared.relation.Rel.{Rel}
use Rattle.fd_prob.specs.declared.relation.Rel.TheVariants.{Same, Differ, Sum, Taken, Holds, Linked, Target, Writes, In, Rows}
use Rattle.fd_prob.specs.declared.slot.Slot.TheVariants as slots
use Rattle.fd_prob.specs.Relations.{agrees, has_condition, holds, is_in_row, is_none_or_legal, is_some_in, target_of, value_of, written_by}
use Rattle.fd_prob.specs.Slots.{slot_number}
use Rattle.fd_prob.specs.Mentions.{Agree, mentions}

itself : (n : ℕ) → (n == n) ≡ true
itself n = grind (arith, nat_tests)

left : (p q : Bool) → p ≡ true → (p || q) ≡ true
left true q h = refl
left false q h = absurd (cc h)

right : (p q : Bool) → q ≡ true → (p || q) ≡ true
right true q h = refl
right false q h = h

target_same : (op : Op) (pc : ℕ) (x y : Assignment) → value_of x slots.A ≡ value_of y slots.A → value_of x slots.Imm ≡ value_of y slots.Imm → target_of op pc x ≡ target_of op pc y
target_same Jal pc x y a imm = ap (λ (n : ℕ). Some ((pc + n) % 2 ^ 32)) imm
target_same Jalr pc x y a imm =
    ap (λ (n : ℕ). Some ((n + value_of x slots.Imm) % 2 ^ 32 - (n + value_of x slots.Imm) % 2 ^ 32 % 2)) a
    ∙ ap (λ (n : ℕ). Some ((value_of y slots.A + n) % 2 ^ 32 - (value_of y slots.A + n) % 2 ^ 32 % 2)) imm
target_same op pc x y a imm = ap (λ (n : ℕ). if is_branch op then Some ((pc + n) % 2 ^ 32) else None) imm

written_same : (op : Op) (x y : Assignment) → value_of x slots.Rs1 ≡ value_of y slots.Rs1 → value_of x slots.A ≡ value_of y slots.A → value_of x slots.Imm ≡ value_of y slots.Imm → value_of x slots.OldCsr ≡ value_of y slots.OldCsr → written_by op x ≡ written_by op y
written_same Csrrw x y rs1 a imm old = ap Some a
written_same Csrrs x y rs1 a imm old = cc
written_same Csrrc x y rs1 a imm old = cc
written_same Csrrwi x y rs1 a imm old = ap Some imm
written_same Csrrsi x y rs1 a imm old = cc
written_same Csrrci x y rs1 a imm old = cc
written_same _ x y rs1 a imm old = refl

condition_same : (op : Op) (taken : Bool) (x y : Assignment) → value_of x slots.A ≡ value_of y slots.A → value_of x slots.B ≡ value_of y slots.B → has_condition op x taken ≡ has_condition op y taken
condition_same op true x y a b = ap (λ (n : ℕ). is_branch op && is_taken op n (value_of x slots.B)) a ∙ ap (λ (n : ℕ). is_branch op && is_taken op (value_of y slots.A) n) b
condition_same op false x y a b = ap (λ (n : ℕ). is_branch op && not (is_taken op n (value_of x slots.B))) a ∙ ap (λ (n : ℕ). is_branch op && not (is_taken op (value_of y slots.A) n)) b

row_same : (x y : Assignment) (row : Quad) → value_of x slots.Ea ≡ value_of y slots.Ea → value_of x slots.FirstPte ≡ value_of y slots.FirstPte → value_of x slots.SecondPte ≡ value_of y slots.SecondPte → value_of x slots.DataWord ≡ value_of y slots.DataWord → is_in_row x row ≡ is_in_row y row
row_same x y row ea root leaf word = cc

rows_same : (x y : Assignment) (rows : List Quad) → ((row : Quad) → is_in_row x row ≡ is_in_row y row) → list_any (is_in_row x) rows ≡ list_any (is_in_row y) rows
rows_same x y [] each = refl
rows_same x y (row ∷ rows) each = ap (λ (b : Bool). b || list_any (is_in_row x) rows) (each row) ∙ ap (λ (b : Bool). is_in_row y row || b) (rows_same x y rows each)

pub holds_same : (op : Op) (r : Rel) (x y : Assignment) → Agree r x y → holds op x r ≡ holds op y r
holds_same op (Same s t) x y agree =
    let a : value_of x s ≡ value_of y s = agree s (left _ _ (itself (slot_number s))) in
    let b : value_of x t ≡ value_of y t = agree t (right _ _ (itself (slot_number t))) in
    cc
holds_same op (Differ s t) x y agree =
    let a : value_of x s ≡ value_of y s = agree s (left _ _ (itself (slot_number s))) in
    let b : value_of x t ≡ value_of y t = agree t (right _ _ (itself (slot_number t))) in
    cc
holds_same op (Sum s t u) x y agree =
    let a : value_of x s ≡ value_of y s = agree s (left _ _ (left _ _ (itself (slot_number s)))) in
    let b : value_of x t ≡ value_of y t = agree t (left _ _ (right _ _ (itself (slot_number t)))) in
    let d : value_of x u ≡ value_of y u = agree u (right _ _ (itself (slot_number u))) in
    cc
holds_same op (Taken taken) x y agree = condition_same op taken x y (agree slots.A refl) (agree slots.B refl)
holds_same op (Holds index value table) x y agree =
    let a : value_of x index ≡ value_of y index = agree index (left _ _ (itself (slot_number index))) in
    let b : value_of x value ≡ value_of y value = agree value (right _ _ (itself (slot_number value))) in
    ap (λ (n : ℕ). agrees (slice_get table n) (value_of x value)) a ∙ ap (λ (n : ℕ). agrees (slice_get table (value_of y index)) n) b
holds_same op Linked x y agree =
    let a : value_of x slots.Rs1 ≡ value_of y slots.Rs1 = agree slots.Rs1 refl in
    let b : value_of x slots.Rs2 ≡ value_of y slots.Rs2 = agree slots.Rs2 refl in
    let d : value_of x slots.A ≡ value_of y slots.A = agree slots.A refl in
    let e : value_of x slots.B ≡ value_of y slots.B = agree slots.B refl in
    cc
holds_same op (Target pc set) x y agree = ap (is_some_in set) (target_same op pc x y (agree slots.A refl) (agree slots.Imm refl))
holds_same op Writes x y agree =
    ap (λ (n : ℕ). is_none_or_legal n (written_by op x)) (agree slots.Csr refl)
    ∙ ap (is_none_or_legal (value_of y slots.Csr)) (written_same op x y (agree slots.Rs1 refl) (agree slots.A refl) (agree slots.Imm refl) (agree slots.OldCsr refl))
holds_same op (In s set) x y agree = ap (is_in set) (agree s (itself (slot_number s)))
holds_same op (Rows rows) x y agree = rows_same x y rows (λ row. row_same x y row (agree slots.Ea refl) (agree slots.FirstPte refl) (agree slots.SecondPte refl) (agree slots.DataWord refl))
