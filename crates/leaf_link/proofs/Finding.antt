-- The first values that fit, in an order by pivots, or that none do.
use Rattle.std.proofs.Common.{◌≡◌, ℕ, zero, suc, ◌+◌, ◌%◌, ◌^◌, ◌<◌, ◌⊎◌, ◌==◌, Bool, if◌then◌else◌, get_or, inl, inr, refl, sym, ap, ◌∙◌, subst, arith}
use Rattle.std.proofs.Math.Path.{fun_ext}
use Rattle.std.proofs.lemmas.Bool.{cases_lt, eq-eqb, ne_eqb}
use Rattle.fd_prob.specs.declared.slot.Slot.{Slot}
use Rattle.fd_prob.specs.declared.slot.Slot.TheVariants as slots
use Rattle.fd_prob.specs.declared.slot.TheConstants.{SLOTS}
use Rattle.fd_prob.specs.Order.{rank}
use Rattle.fd_prob.specs.Slots.{slot_number}
use Rattle.fd_prob.proofs.Places.{in_place, place_below, same_slot}
use Rattle.case_search.proofs.Ranks.{rank_is, rank_word}
use Rattle.leaf_link.specs.Values.{Values}
use Rattle.leaf_link.proofs.Totals.{AgreeBefore, AreWords, Before}

-- THE FIRST NUMBER
-- of numbers of which each is one or the other, the first that is the one
record IsFirst (A B : ℕ → Type 0) (n : ℕ) : Type 0 where
  place : ℕ
  below : place < n
  has : A place
  before : (j : ℕ) → j < place → B j

first_below : (A B : ℕ → Type 0) → ((k : ℕ) → A k ⊎ B k) → (n : ℕ) → IsFirst A B n ⊎ ((k : ℕ) → k < n → B k)
first_below A B decide zero = inr (λ k less. absurd (omega (arith, less)))
first_below A B decide (suc n) = go (first_below A B decide n) (decide n)
  where
    go : IsFirst A B n ⊎ ((k : ℕ) → k < n → B k) → A n ⊎ B n → IsFirst A B (suc n) ⊎ ((k : ℕ) → k < suc n → B k)
    go (inl f) d = inl (record { place = f.place; below = (let less = f.below in omega (arith, less)); has = f.has; before = f.before })
    go (inr none) (inl a) = inl (record { place = n; below = omega arith; has = a; before = none })
    go (inr none) (inr b) = inr (λ k less. elim (cases_lt k n) [
      | inl lower ↦ none k lower
      | inr from ↦ let same : k ≡ n = omega (arith, less, from) in subst B (sym same) b
    ])

-- RANKS
rank_back : (p v : ℕ) → p < 2 ^ 32 → v < 2 ^ 32 → (p + rank p v) % 2 ^ 32 ≡ v
rank_back p v lp lv = elim (rank_is p v lp lv) [
  | inl a ↦ let e = a.1 in omega (arith, e, lv)
  | inr a ↦ let e = a.1 in omega (arith, e, lv)
]

rank_at : (p k : ℕ) → p < 2 ^ 32 → k < 2 ^ 32 → rank p ((p + k) % 2 ^ 32) ≡ k
rank_at p k lp lk =
    let v : ℕ = (p + k) % 2 ^ 32 in
    let lv : v < 2 ^ 32 = omega arith in
    elim (rank_is p v lp lv) [
      | inl a ↦ let low = a.0 in let e = a.1 in omega (arith, low, e, lp, lk)
      | inr a ↦ let low = a.0 in let e = a.1 in omega (arith, low, e, lp, lk)
    ]

-- VALUES FROM ONE VARIABLE ON
abbrev with_value : Slot → ℕ → Values → Values
with_value s v x r = if slot_number r == slot_number s then v else x r

at_own : (s : Slot) (v : ℕ) (x : Values) (r : Slot) → slot_number r ≡ slot_number s → with_value s v x r ≡ v
at_own s v x r e = ap (λ (b : Bool). if b then v else x r) (eq-eqb (slot_number r) (slot_number s) e)

at_other : (s : Slot) (v : ℕ) (x : Values) (r : Slot) → slot_number r < slot_number s → with_value s v x r ≡ x r
at_other s v x r less = ap (λ (b : Bool). if b then v else x r) (ne_eqb (slot_number r) (slot_number s) (λ e. omega (arith, e, less)))

-- the first so many variables have these values
abbrev AgreeBelow : ℕ → Values → Values → Type 0
AgreeBelow m z x = (r : Slot) → slot_number r < m → z r ≡ x r

module _ (Fit : Values → Type 0) (decide : (x : Values) → Fit x ⊎ (Fit x → ⊥)) (small : (x : Values) → Fit x → AreWords x) (pivot : Values → Slot → ℕ) (alike : (x y : Values) (s : Slot) → AgreeBefore s x y → pivot x s ≡ pivot y s) (words : (x : Values) (s : Slot) → pivot x s < 2 ^ 32) where
  -- of the values that begin so, those that fit and before which no others come
  pub record Least (m : ℕ) (x : Values) : Type 0 where
    pub values : Values
    pub fit : Fit values
    pub agree : AgreeBelow m values x
    pub least : (z : Values) → Fit z → AgreeBelow m z x → Before pivot z values → ⊥

  abbrev pub None : ℕ → Values → Type 0
  None m x = (z : Values) → Fit z → AgreeBelow m z x → ⊥

  -- all variables are given
  given : (x : Values) → Least 14 x ⊎ None 14 x
  given x = elim (decide x) [
    | inl f ↦ inl (record { values = x; fit = f; agree = λ r less. refl; least = λ z g agree before. (let near = before.2 in let same = ap (λ (v : ℕ). rank (pivot z before.0) v) (agree before.0 (place_below before.0)) in omega (arith, near, same)) })
    | inr isnt ↦ inr (λ z f agree. isnt (subst Fit (fun_ext (λ s. agree s (place_below s))) f))
  ]

  -- one variable more
  module _ (m : ℕ) (x : Values) (s : Slot) (here : slot_number s ≡ m) (rest : (k : ℕ) → Least (suc m) (with_value s ((pivot x s + k) % 2 ^ 32) x) ⊎ None (suc m) (with_value s ((pivot x s + k) % 2 ^ 32) x)) where
    abbrev P : ℕ
    P = pivot x s

    abbrev begun : ℕ → Values
    begun k = with_value s ((P + k) % 2 ^ 32) x

    -- what begins as x, begins as x with the value of its own rank
    own_rank : (z : Values) → Fit z → AgreeBelow m z x → AgreeBelow (suc m) z (begun (rank P (z s)))
    own_rank z f agree r less = elim (cases_lt (slot_number r) m) [
      | inl lower ↦ agree r lower ∙ sym (at_other s ((P + rank P (z s)) % 2 ^ 32) x r (omega (arith, lower, here)))
      | inr from ↦
          let same : slot_number r ≡ slot_number s = omega (arith, less, from, here) in
          let is : r ≡ s = same_slot r s same in
          ap (λ (q : Slot). z q) is ∙ sym (rank_back P (z s) (words x s) (small z f s)) ∙ sym (at_own s ((P + rank P (z s)) % 2 ^ 32) x r same)
    ]

    own_below : (z : Values) → Fit z → rank P (z s) < 2 ^ 32
    own_below z f = rank_word P (z s) (words x s) (small z f s)

    least_from : (k : ℕ) → k < 2 ^ 32 → (l : Least (suc m) (begun k)) → ((j : ℕ) → j < k → None (suc m) (begun j)) → (z : Values) → Fit z → AgreeBelow m z x → Before pivot z l.values → ⊥
    least_from k less l none z f agree before =
        let j : ℕ = rank P (z s) in
        let own = own_rank z f agree in
        let begins : l.values s ≡ (P + k) % 2 ^ 32 = l.agree s (omega (arith, here)) ∙ at_own s ((P + k) % 2 ^ 32) x s refl in
        let its_rank : rank P (l.values s) ≡ k = ap (λ (v : ℕ). rank P v) begins ∙ rank_at P k (words x s) less in
        elim (cases_lt j k) [
          | inl lower ↦ none j lower z f own
          | inr from ↦ elim (cases_lt k j) [
            | inr to ↦ let same : j ≡ k = omega (arith, from, to) in l.least z f (subst (λ (n : ℕ). AgreeBelow (suc m) z (begun n)) same own) before
            | inl higher ↦ elim (cases_lt (slot_number before.0) m) [
              | inl earlier ↦
                  let same : z before.0 ≡ l.values before.0 = agree before.0 earlier ∙ sym (at_other s ((P + k) % 2 ^ 32) x before.0 (omega (arith, earlier, here))) ∙ sym (l.agree before.0 (omega (arith, earlier))) in
                  let near = before.2 in
                  let ranks = ap (λ (v : ℕ). rank (pivot z before.0) v) same in omega (arith, near, ranks)
              | inr late ↦ elim (cases_lt m (slot_number before.0)) [
                | inl later ↦
                    let same : z s ≡ l.values s = before.1 s (omega (arith, later, here)) in
                    let ranks : j ≡ k = ap (λ (v : ℕ). rank P v) same ∙ its_rank in omega (arith, ranks, higher)
                | inr soon ↦
                    let is : before.0 ≡ s = same_slot before.0 s (omega (arith, late, soon, here)) in
                    let its_pivot : pivot z s ≡ P = alike z x s (λ r lt. agree r (omega (arith, lt, here))) in
                    let near : rank (pivot z s) (z s) < rank (pivot z s) (l.values s) = subst (λ (q : Slot). rank (pivot z q) (z q) < rank (pivot z q) (l.values q)) is before.2 in
                    let near_p : rank P (z s) < rank P (l.values s) = subst (λ (n : ℕ). rank n (z s) < rank n (l.values s)) its_pivot near in omega (arith, near_p, its_rank, higher)
              ]
            ]
          ]
        ]

    one_more : Least m x ⊎ None m x
    one_more = elim (first_below (λ k. Least (suc m) (begun k)) (λ k. None (suc m) (begun k)) rest (2 ^ 32)) [
      | inl f ↦ inl (record {
        values = f.has.values;
        fit = f.has.fit;
        agree = λ r lower. f.has.agree r (omega (arith, lower)) ∙ at_other s ((P + f.place) % 2 ^ 32) x r (omega (arith, lower, here));
        least = least_from f.place f.below f.has f.before;
      })
      | inr none ↦ inr (λ z f agree. none (rank P (z s)) (own_below z f) z f (own_rank z f agree))
    ]

  -- so many variables are left
  found_from : (n m : ℕ) → m + n ≡ 14 → (x : Values) → Least m x ⊎ None m x
  found_from zero m all x = let is : m ≡ 14 = omega (arith, all) in subst (λ (k : ℕ). Least k x ⊎ None k x) (sym is) (given x)
  found_from (suc n) m all x =
      one_more m x (get_or SLOTS m slots.Op) (in_place m slots.Op (omega (arith, all))) (λ k. found_from n (suc m) (omega (arith, all)) (with_value (get_or SLOTS m slots.Op) ((pivot x (get_or SLOTS m slots.Op) + k) % 2 ^ 32) x))

  -- values that fit and before which no others come, or that none fit
  pub least_of_all : Least 0 (λ s. 0) ⊎ None 0 (λ s. 0)
  least_of_all = found_from 14 0 (omega arith) (λ s. 0)
