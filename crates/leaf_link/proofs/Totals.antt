-- The order of values is total.
use Rattle.std.proofs.Common.{◌≡◌, ℕ, zero, suc, ◌^◌, ◌<◌, ◌≤◌, ◌⊎◌, get_or, inl, inr, ⊎_elim, sym, subst, arith}
use Rattle.std.proofs.lemmas.Bool.{cases_lt}
use Rattle.fd_prob.specs.declared.slot.Slot.{Slot}
use Rattle.fd_prob.specs.declared.slot.Slot.TheVariants as slots
use Rattle.fd_prob.specs.declared.slot.TheConstants.{SLOTS}
use Rattle.fd_prob.specs.Order.{rank}
use Rattle.fd_prob.specs.Slots.{slot_number}
use Rattle.fd_prob.proofs.Places.{in_place, place_below, same_slot}
use Rattle.case_search.proofs.Ranks.{rank_injective}
use Rattle.leaf_link.specs.Values.{Values}

-- the variables before one have the same values
abbrev pub AgreeBefore : Slot → Values → Values → Type 0
AgreeBefore s x y = (r : Slot) → slot_number r < slot_number s → x r ≡ y r

-- at the first variable in which they differ, the value of x is nearer above a pivot
abbrev pub Before : (Values → Slot → ℕ) → Values → Values → Type 0
Before pivot x y = (s : Slot) × AgreeBefore s x y × (rank (pivot x s) (x s) < rank (pivot x s) (y s))

abbrev pub AreWords : Values → Type 0
AreWords x = (s : Slot) → x s < 2 ^ 32

module _ (pivot : Values → Slot → ℕ) (x y : Values) (alike : (s : Slot) → AgreeBefore s x y → pivot x s ≡ pivot y s) (words : (s : Slot) → pivot x s < 2 ^ 32) (of_x : AreWords x) (of_y : AreWords y) where
  abbrev Decided : Type 0
  Decided = Before pivot x y ⊎ Before pivot y x

  abbrev Agree : ℕ → Type 0
  Agree n = (r : Slot) → slot_number r < n → x r ≡ y r

  more : (s : Slot) → Agree (slot_number s) → x s ≡ y s → Agree (suc (slot_number s))
  more s agree here r lt = elim (cases_lt (slot_number r) (slot_number s)) [
    | inl less ↦ agree r less
    | inr from ↦ let e : r ≡ s = same_slot r s (omega (arith, from, lt)) in subst (λ (z : Slot). x z ≡ y z) (sym e) here
  ]

  decided_there : (s : Slot) → Agree (slot_number s) → Agree (suc (slot_number s)) ⊎ Decided
  decided_there s agree =
      let P : ℕ = pivot x s in
      elim (cases_lt (rank P (x s)) (rank P (y s))) [
        | inl less ↦ inr (inl (s, agree, less))
        | inr from ↦ elim (cases_lt (rank P (y s)) (rank P (x s))) [
          | inl nearer ↦ inr (inr (s, (λ r less. sym (agree r less)), subst (λ (q : ℕ). rank q (y s) < rank q (x s)) (alike s agree) nearer))
          | inr to ↦
              let e : rank P (x s) ≡ rank P (y s) = omega (arith, from, to) in
              inl (more s agree (rank_injective P (x s) (y s) (words s) (of_x s) (of_y s) e))
        ]
      ]

  decided_at : (n : ℕ) → n < 14 → Agree n → Agree (suc n) ⊎ Decided
  decided_at n lt agree =
      let s : Slot = get_or SLOTS n slots.Op in
      let e : slot_number s ≡ n = in_place n slots.Op lt in
      subst (λ (m : ℕ). Agree (suc m) ⊎ Decided) e (decided_there s (subst Agree (sym e) agree))

  decided_up_to : (n : ℕ) → n ≤ 14 → Agree n ⊎ Decided
  decided_up_to zero le = inl (λ r lt. absurd (omega (arith, lt)))
  decided_up_to (suc n) le = ⊎_elim (λ agree. decided_at n (omega (arith, le)) agree) (λ decided. inr decided) (decided_up_to n (omega (arith, le)))

  pub total : Before pivot x y ⊎ (((s : Slot) → x s ≡ y s) ⊎ Before pivot y x)
  total = ⊎_elim (λ agree. inr (inl (λ s. agree s (place_below s)))) (λ decided. ⊎_elim (λ before. inl before) (λ after. inr (inr after)) decided) (decided_up_to 14 (omega arith))
