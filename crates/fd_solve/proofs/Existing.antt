-- Where something fits, there is a least assignment that does.
use Rattle.std.proofs.Common.{◌≡◌, ℕ, zero, suc, ◌+◌, ◌^◌, ◌<◌, List, [], ◌∷◌, get_or, slice_index, ◌⊎◌, inl, inr, refl, sym, ap, ◌∙◌, subst, arith}
use Rattle.std.proofs.lemmas.Bool.{cases_lt, false≢true}
use Rattle.std.proofs.lemmas.List.{ext_get_or}
use Rattle.std.proofs.lemmas.List.Elements.{All-from_recursion}
use Rattle.fd_prob.specs.declared.problem.Assignment.{Assignment}
use Rattle.fd_prob.specs.declared.problem.Problem.{Problem}
use Rattle.fd_prob.specs.declared.slot.Slot.{Slot}
use Rattle.fd_prob.specs.declared.slot.Slot.TheVariants as slots
use Rattle.fd_prob.specs.declared.slot.TheConstants.{SLOTS}
use Rattle.fd_prob.specs.Fitting.{fits}
use Rattle.fd_prob.specs.Order.{ComesBefore, IsAssignment, pivot_of, rank}
use Rattle.fd_prob.specs.Relations.{value_of}
use Rattle.fd_prob.specs.Slots.{slot_number}
use Rattle.fd_prob.proofs.Places.{in_place, place_below, same_slot}
use Rattle.fd_solve.specs.Answers.{IsLeast, NothingFits}
use Rattle.case_search.specs.Internal.Free.{put}
use Rattle.fd_solve.specs.Internal.Operations.{IsFitting}
use Rattle.case_search.proofs.Putting.{put_here, put_there, put_word, true_or_false, value_word}
use Rattle.fd_solve.proofs.StrictOrder.{pivot_alike}

-- THE NUMBER OF THE LEAST KEY
-- of the numbers below n, each of which is one or the other, one of those that are the one, so that those of a lower key are the other
record IsLowest (A B : ℕ → Type 0) (key : ℕ → ℕ) (n : ℕ) : Type 0 where
  number : ℕ
  below : number < n
  has : A number
  lower : (j : ℕ) → j < n → key j < key number → B j

lowest_below : (A B : ℕ → Type 0) (key : ℕ → ℕ) (n : ℕ) → ((k : ℕ) → k < n → A k ⊎ B k) → IsLowest A B key n ⊎ ((k : ℕ) → k < n → B k)
lowest_below A B key zero decide = inr (λ k less. absurd (omega (arith, less)))
lowest_below A B key (suc n) decide = go (lowest_below A B key n (λ k less. decide k (omega (arith, less)))) (decide n (omega arith))
  where
    last : (j : ℕ) → j < suc n → (j < n → B j) → (j ≡ n → B j) → B j
    last j less before here = elim (cases_lt j n) [
      | inl lower ↦ before lower
      | inr from ↦ here (omega (arith, less, from))
    ]

    go : IsLowest A B key n ⊎ ((k : ℕ) → k < n → B k) → A n ⊎ B n → IsLowest A B key (suc n) ⊎ ((k : ℕ) → k < suc n → B k)
    go (inl f) (inl a) = elim (cases_lt (key n) (key f.number)) [
      | inl near ↦ inl (record {
        number = n;
        below = omega arith;
        has = a;
        lower = λ j less nearer. last j less (λ lt. f.lower j lt (omega (arith, near, nearer))) (λ e. absurd (let same : key j ≡ key n = ap key e in omega (arith, same, nearer)));
      })
      | inr far ↦ inl (record {
        number = f.number;
        below = (let less = f.below in omega (arith, less));
        has = f.has;
        lower = λ j less nearer. last j less (λ lt. f.lower j lt nearer) (λ e. absurd (let same : key j ≡ key n = ap key e in omega (arith, same, nearer, far)));
      })
    ]
    go (inl f) (inr b) = inl (record {
      number = f.number;
      below = (let less = f.below in omega (arith, less));
      has = f.has;
      lower = λ j less nearer. last j less (λ lt. f.lower j lt nearer) (λ e. subst B (sym e) b);
    })
    go (inr none) (inl a) = inl (record {
      number = n;
      below = omega arith;
      has = a;
      lower = λ j less nearer. last j less (λ lt. none j lt) (λ e. absurd (let same : key j ≡ key n = ap key e in omega (arith, same, nearer)));
    })
    go (inr none) (inr b) = inr (λ k less. last k less (λ lt. none k lt) (λ e. subst B (sym e) b))

-- ASSIGNMENTS THAT BEGIN ALIKE
-- the first so many variables have the same values
abbrev AgreeBelow : ℕ → Assignment → Assignment → Type 0
AgreeBelow m y x = (r : Slot) → slot_number r < m → value_of y r ≡ value_of x r

all_agree : (y x : Assignment) → IsAssignment y → IsAssignment x → AgreeBelow 14 y x → y ≡ x
all_agree y x of_y of_x agree =
    let each : (n : ℕ) → n < 14 → slice_index y.values n ≡ slice_index x.values n = λ n lt.
    let e : slot_number (get_or SLOTS n slots.Op) ≡ n = in_place n slots.Op lt in
    subst (λ (k : ℕ). slice_index y.values k ≡ slice_index x.values k) e (agree (get_or SLOTS n slots.Op) (omega (arith, e, lt))) in
    ap (λ (vs : List ℕ). record { values = vs }) (ext_get_or 0 y.values x.values (of_y.length ∙ sym of_x.length) (λ n lt. each n (omega (arith, lt, of_y.length))))

-- some assignment
abbrev start : Assignment
start = record { values = 0 ∷ 0 ∷ 0 ∷ 0 ∷ 0 ∷ 0 ∷ 0 ∷ 0 ∷ 0 ∷ 0 ∷ 0 ∷ 0 ∷ 0 ∷ 0 ∷ [] }

starts : IsAssignment start
starts = record { length = refl; words = let z : 0 < 2 ^ 32 = omega arith in All-from_recursion (λ v. v < 2 ^ 32) start.values (z, (z, (z, (z, (z, (z, (z, (z, (z, (z, (z, (z, (z, (z, tt)))))))))))))) }

module _ (p : Problem) where
  -- of what fits and begins as x, one before which no other comes
  record LeastFrom (m : ℕ) (x : Assignment) : Type 0 where
    found : Assignment
    fitting : IsFitting p found
    agree : AgreeBelow m found x
    least : (z : Assignment) → IsFitting p z → AgreeBelow m z x → ComesBefore p z found → ⊥

  abbrev NoneFrom : ℕ → Assignment → Type 0
  NoneFrom m x = (z : Assignment) → IsFitting p z → AgreeBelow m z x → ⊥

  same_rank : (z y : Assignment) (s : Slot) (P : ℕ) → value_of z s ≡ value_of y s → rank P (value_of z s) < rank P (value_of y s) → ⊥
  same_rank z y s P same near = let ranks : rank P (value_of z s) ≡ rank P (value_of y s) = ap (rank P) same in omega (arith, near, ranks)

  -- all variables are given
  all_given : (x : Assignment) → IsAssignment x → LeastFrom 14 x ⊎ NoneFrom 14 x
  all_given x is = elim (true_or_false (fits p x)) [
    | inl f ↦ inl (record { found = x; fitting = (is, f); agree = λ r less. refl; least = λ z of_z agree before. same_rank z x before.0 (pivot_of p (value_of z slots.Op) before.0) (agree before.0 (place_below before.0)) before.2 })
    | inr f ↦ inr (λ z of_z agree. false≢true (sym f ∙ ap (fits p) (sym (all_agree z x of_z.0 is agree)) ∙ of_z.1))
  ]

  -- one variable more
  module _ (m : ℕ) (x : Assignment) (is : IsAssignment x) (s : Slot) (here : slot_number s ≡ m) (rest : (v : ℕ) → v < 2 ^ 32 → LeastFrom (suc m) (put x s v) ⊎ NoneFrom (suc m) (put x s v)) where
    abbrev P : ℕ
    P = pivot_of p (value_of x slots.Op) s

    -- what begins as x, begins as x with its own value
    with_own : (z : Assignment) (v : ℕ) → AgreeBelow m z x → value_of z s ≡ v → AgreeBelow (suc m) z (put x s v)
    with_own z v agree own r less = elim (cases_lt (slot_number r) m) [
      | inl lower ↦ agree r lower ∙ sym (put_there x s r v (λ e. omega (arith, e, lower, here)))
      | inr from ↦
          let same : r ≡ s = same_slot r s (omega (arith, less, from, here)) in
          ap (λ (q : Slot). value_of z q) same ∙ own ∙ sym (put_here x s v is) ∙ ap (λ (q : Slot). value_of (put x s v) q) (sym same)
    ]

    begins : (y : Assignment) (v : ℕ) → AgreeBelow (suc m) y (put x s v) → AgreeBelow m y x
    begins y v agree r lower = agree r (omega (arith, lower)) ∙ put_there x s r v (λ e. omega (arith, e, lower, here))

    own_pivot : (z : Assignment) → AgreeBelow m z x → pivot_of p (value_of z slots.Op) s ≡ P
    own_pivot z agree = pivot_alike p (value_of z slots.Op) (value_of x slots.Op) s (λ later. agree slots.Op (omega (arith, later, here)))

    least_with : (v : ℕ) → (l : LeastFrom (suc m) (put x s v)) → ((w : ℕ) → w < 2 ^ 32 → rank P w < rank P v → NoneFrom (suc m) (put x s w)) → (z : Assignment) → IsFitting p z → AgreeBelow m z x → ComesBefore p z l.found → ⊥
    least_with v l lower z of_z agree before =
        let its : value_of l.found s ≡ v = l.agree s (omega (arith, here)) ∙ put_here x s v is in
        elim (cases_lt (slot_number before.0) m) [
          | inl earlier ↦ same_rank z l.found before.0 (pivot_of p (value_of z slots.Op) before.0) (agree before.0 earlier ∙ sym (begins l.found v l.agree before.0 earlier)) before.2
          | inr late ↦ elim (cases_lt m (slot_number before.0)) [
            | inl later ↦ l.least z of_z (with_own z v agree (before.1 s (omega (arith, later, here)) ∙ its)) before
            | inr soon ↦
                let same : before.0 ≡ s = same_slot before.0 s (omega (arith, late, soon, here)) in
                let near : rank (pivot_of p (value_of z slots.Op) s) (value_of z s) < rank (pivot_of p (value_of z slots.Op) s) (value_of l.found s) = subst (λ (q : Slot). rank (pivot_of p (value_of z slots.Op) q) (value_of z q) < rank (pivot_of p (value_of z slots.Op) q) (value_of l.found q)) same before.2 in
                let near_p : rank P (value_of z s) < rank P (value_of l.found s) = subst (λ (n : ℕ). rank n (value_of z s) < rank n (value_of l.found s)) (own_pivot z agree) near in
                let near_v : rank P (value_of z s) < rank P v = subst (λ (n : ℕ). rank P (value_of z s) < rank P n) its near_p in
                lower (value_of z s) (value_word z s of_z.0) near_v z of_z (with_own z (value_of z s) agree refl)
          ]
        ]

    one_more : LeastFrom m x ⊎ NoneFrom m x
    one_more = elim (lowest_below (λ v. LeastFrom (suc m) (put x s v)) (λ v. NoneFrom (suc m) (put x s v)) (rank P) (2 ^ 32) rest) [
      | inl f ↦ inl (record { found = f.has.found; fitting = f.has.fitting; agree = begins f.has.found f.number f.has.agree; least = least_with f.number f.has f.lower })
      | inr none ↦ inr (λ z of_z agree. none (value_of z s) (value_word z s of_z.0) z of_z (with_own z (value_of z s) agree refl))
    ]

  -- so many variables are left
  found_from : (n m : ℕ) → m + n ≡ 14 → (x : Assignment) → IsAssignment x → LeastFrom m x ⊎ NoneFrom m x
  found_from zero m all x is = let e : m ≡ 14 = omega (arith, all) in subst (λ (k : ℕ). LeastFrom k x ⊎ NoneFrom k x) (sym e) (all_given x is)
  found_from (suc n) m all x is =
      let s : Slot = get_or SLOTS m slots.Op in
      one_more m x is s (in_place m slots.Op (omega (arith, all))) (λ v word. found_from n (suc m) (omega (arith, all)) (put x s v) (put_word x s v word is))

  pub least_or_none : ((y : Assignment) × IsLeast p y) ⊎ NothingFits p
  least_or_none = elim (found_from 14 0 (omega arith) start starts) [
    | inl l ↦ inl (l.found, record { words = l.fitting.0; fitting = l.fitting.1; least = λ y words fits_y before. l.least y (words, fits_y) (λ r less. absurd (omega (arith, less))) before })
    | inr none ↦ inr (λ y words fits_y. none y (words, fits_y) (λ r less. absurd (omega (arith, less))))
  ]

  pub some_least : (x : Assignment) → IsFitting p x → (y : Assignment) × IsLeast p y
  some_least x fitting = elim (found_from 14 0 (omega arith) x fitting.0) [
    | inl l ↦ (l.found, record { words = l.fitting.0; fitting = l.fitting.1; least = λ y words fits_y before. l.least y (words, fits_y) (λ r less. absurd (omega (arith, less))) before })
    | inr none ↦ absurd (none x fitting (λ r less. refl))
  ]
