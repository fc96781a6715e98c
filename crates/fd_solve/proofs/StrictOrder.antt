-- The order of assignments is strict and total.
use Rattle.std.proofs.Common.{◌≡◌, ℕ, zero, suc, ◌<◌, ◌≤◌, get_or, List, slice_index, ◌⊎◌, inl, inr, ⊎_elim, refl, sym, ap, ◌∙◌, subst, arith}
use Rattle.std.proofs.lemmas.Bool.{cases_lt}
use Rattle.std.proofs.lemmas.List.{ext_get_or}
use Rattle.fd_prob.specs.declared.problem.Assignment.{Assignment}
use Rattle.fd_prob.specs.declared.problem.Problem.{Problem}
use Rattle.fd_prob.specs.declared.slot.Slot.{Slot}
use Rattle.fd_prob.specs.declared.slot.Slot.TheVariants as slots
use Rattle.fd_prob.specs.declared.slot.TheConstants.{SLOTS}
use Rattle.fd_prob.specs.Order.{ComesBefore, IsAssignment, IsNearer, pivot_of, rank}
use Rattle.fd_prob.specs.Relations.{value_of}
use Rattle.fd_prob.specs.Slots.{slot_number}
use Rattle.fd_solve.specs.Laws.{ArePivotsWords, OrderIsStrictAndTotal}
use Rattle.fd_solve.proofs.AllOperations.{op_or_later}
use Rattle.fd_prob.proofs.Places.{in_place, same_slot}
use Rattle.case_search.proofs.Ranks.{rank_injective}

at_operation : (p : Problem) (a b : ℕ) → pivot_of p a slots.Op ≡ pivot_of p b slots.Op
unfolding pivot_of
at_operation p a b = refl

-- a pivot goes by the operation, but for that of the operation itself
pub pivot_alike : (p : Problem) (a b : ℕ) (s : Slot) → (0 < slot_number s → a ≡ b) → pivot_of p a s ≡ pivot_of p b s
pivot_alike p a b s same = ⊎_elim
    (λ is. subst (λ (t : Slot). pivot_of p a t ≡ pivot_of p b t) (sym is) (at_operation p a b))
    (λ later. ap (λ (n : ℕ). pivot_of p n s) (same later))
    (op_or_later s)

itself : (p : Problem) (x : Assignment) → ComesBefore p x x → ⊥
itself p x before = omega (arith, before.2)

chain : (p : Problem) (x y z : Assignment) → ComesBefore p x y → ComesBefore p y z → ComesBefore p x z
chain p x y z one two = elim (cases_lt (slot_number one.0) (slot_number two.0)) [
  | inl less ↦
      let P : ℕ = pivot_of p (value_of x slots.Op) one.0 in
      (one.0, λ t lt. one.1 t lt ∙ two.1 t (omega (arith, lt, less)), subst (λ (v : ℕ). rank P (value_of x one.0) < rank P v) (two.1 one.0 less) one.2)
  | inr from ↦
      let P : ℕ = pivot_of p (value_of x slots.Op) two.0 in
      let alike : pivot_of p (value_of y slots.Op) two.0 ≡ P = pivot_alike p (value_of y slots.Op) (value_of x slots.Op) two.0 (λ later. sym (one.1 slots.Op (omega (arith, later, from)))) in
      let near : rank P (value_of y two.0) < rank P (value_of z two.0) = subst (λ (q : ℕ). rank q (value_of y two.0) < rank q (value_of z two.0)) alike two.2 in
      elim (cases_lt (slot_number two.0) (slot_number one.0)) [
        | inl more ↦ (two.0, λ t lt. one.1 t (omega (arith, lt, more)) ∙ two.1 t lt, subst (λ (v : ℕ). rank P v < rank P (value_of z two.0)) (sym (one.1 two.0 more)) near)
        | inr to ↦
            let e : one.0 ≡ two.0 = same_slot one.0 two.0 (omega (arith, from, to)) in
            let first : rank P (value_of x two.0) < rank P (value_of y two.0) = subst (IsNearer p x y) e one.2 in
            (two.0, λ t lt. one.1 t (omega (arith, lt, from)) ∙ two.1 t lt, omega (arith, first, near))
      ]
]

module _ (p : Problem) (x y : Assignment) (words : ArePivotsWords p) (of_x : IsAssignment x) (of_y : IsAssignment y) where
  abbrev Decided : Type 0
  Decided = ComesBefore p x y ⊎ ComesBefore p y x

  abbrev Agree : ℕ → Type 0
  Agree n = (k : ℕ) → k < n → slice_index x.values k ≡ slice_index y.values k

  -- the values at the place of a variable
  more : (n : ℕ) → Agree n → slice_index x.values n ≡ slice_index y.values n → Agree (suc n)
  more n agree here k lt = elim (cases_lt k n) [
    | inl less ↦ agree k less
    | inr from ↦ let e : k ≡ n = omega (arith, from, lt) in subst (λ (i : ℕ). slice_index x.values i ≡ slice_index y.values i) (sym e) here
  ]

  decided_there : (s : Slot) → slot_number s < 14 → Agree (slot_number s) → Agree (suc (slot_number s)) ⊎ Decided
  decided_there s lt agree =
      let P : ℕ = pivot_of p (value_of x slots.Op) s in
      let alike : P ≡ pivot_of p (value_of y slots.Op) s = pivot_alike p (value_of x slots.Op) (value_of y slots.Op) s (λ later. agree 0 later) in
      let below : (t : Slot) → slot_number t < slot_number s → value_of x t ≡ value_of y t = λ t less. agree (slot_number t) less in
      elim (cases_lt (rank P (value_of x s)) (rank P (value_of y s))) [
        | inl less ↦ inr (inl (s, below, less))
        | inr from ↦ elim (cases_lt (rank P (value_of y s)) (rank P (value_of x s))) [
          | inl nearer ↦ inr (inr (s, (λ t less. sym (below t less)), subst (λ (q : ℕ). rank q (value_of y s) < rank q (value_of x s)) alike nearer))
          | inr to ↦
              let e : rank P (value_of x s) ≡ rank P (value_of y s) = omega (arith, from, to) in
              inl (more (slot_number s) agree (rank_injective P (value_of x s) (value_of y s) (words (value_of x slots.Op) s)
              (of_x.words (slot_number s) 0 (omega (arith, lt, of_x.length))) (of_y.words (slot_number s) 0 (omega (arith, lt, of_y.length))) e))
        ]
      ]

  decided_at : (n : ℕ) → n < 14 → Agree n → Agree (suc n) ⊎ Decided
  decided_at n lt agree =
      let s : Slot = get_or SLOTS n slots.Op in
      let e : slot_number s ≡ n = in_place n slots.Op lt in
      subst (λ (m : ℕ). Agree (suc m) ⊎ Decided) e (decided_there s (omega (arith, e, lt)) (subst Agree (sym e) agree))

  decided_up_to : (n : ℕ) → n ≤ 14 → Agree n ⊎ Decided
  decided_up_to zero le = inl (λ k lt. absurd (omega (arith, lt)))
  decided_up_to (suc n) le = ⊎_elim (λ agree. decided_at n (omega (arith, le)) agree) (λ decided. inr decided) (decided_up_to n (omega (arith, le)))

  all_values : Agree 14 → x.values ≡ y.values
  all_values agree = ext_get_or 0 x.values y.values (of_x.length ∙ sym of_y.length) (λ i lt. agree i (omega (arith, lt, of_x.length)))

  all_same : Agree 14 → x ≡ y
  all_same agree = ap (λ (vs : List ℕ). record { values = vs }) (all_values agree)

  total : ComesBefore p x y ⊎ ((x ≡ y) ⊎ ComesBefore p y x)
  total = ⊎_elim (λ agree. inr (inl (all_same agree))) (λ decided. ⊎_elim (λ before. inl before) (λ after. inr (inr after)) decided) (decided_up_to 14 (omega arith))

pub strict_and_total : OrderIsStrictAndTotal
strict_and_total = record { itself = itself; chain = chain; total = total }
