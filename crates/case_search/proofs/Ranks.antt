-- Ranks from a pivot, and the element of a set with the least.
use Rattle.std.proofs.Common.{◌≡◌, ℕ, zero, suc, ◌+◌, ◌-◌, ◌%◌, ◌^◌, ◌<◌, ◌≤◌, Bool, true, false, cond, ◌||◌, eqb, eqb-true, leb, List, [], ◌∷◌, length, get_or, find, Some, None, All, slice_index, ◌⊎◌, inl, inr, ⊎_elim, refl, ap, ◌∙◌, subst, arith}
use Rattle.std.specs.Prelude.{slice_get}
use Rattle.std.specs.List.Sorted.{IsStrictlyIncreasing}
use Rattle.std.specs.Option.{option_or}
use Rattle.std.proofs.lemmas.Bool.{cases_lt, lt-ltb, le-ltb}
use Rattle.std.proofs.lemmas.Bool.Decides.{nat_tests}
use Rattle.std.proofs.lemmas.List.Folds.{Any-from_list_any}
use Rattle.std.proofs.lemmas.Option.{same_Some}
use Rattle.dom_set.specs.Elements.{first_cyclic, is_in}
use Rattle.fd_prob.specs.Order.{rank}
use Rattle.case_search.specs.Search.{IsNext}

pub rank_up : (p v : ℕ) → p ≤ v → rank p v ≡ v - p
rank_up p v le = rw (le-ltb _ _ le) refl

pub rank_round : (p v : ℕ) → v < p → rank p v ≡ v + 2 ^ 32 - p
rank_round p v lt = rw (lt-ltb _ _ lt) refl

pub rank_is : (p v : ℕ) → p < 2 ^ 32 → v < 2 ^ 32 → ((p ≤ v) × (rank p v + p ≡ v)) ⊎ ((v < p) × (rank p v + p ≡ v + 2 ^ 32))
rank_is p v lp lv = elim (cases_lt v p) [
  | inl below ↦ inr (below, omega (arith, rank_round p v below, lp))
  | inr from ↦ inl (from, omega (arith, rank_up p v from))
]

pub rank_word : (p v : ℕ) → p < 2 ^ 32 → v < 2 ^ 32 → rank p v < 2 ^ 32
rank_word p v lp lv = elim (rank_is p v lp lv) [ inl a ↦ omega (arith, a.0, a.1, lp, lv) | inr a ↦ omega (arith, a.0, a.1, lp, lv) ]

pub rank_injective : (p v w : ℕ) → p < 2 ^ 32 → v < 2 ^ 32 → w < 2 ^ 32 → rank p v ≡ rank p w → v ≡ w
rank_injective p v w lp lv lw e = elim (rank_is p v lp lv) [
  | inl a ↦ elim (rank_is p w lp lw) [ inl b ↦ omega (arith, a.1, b.1, e) | inr b ↦ absurd (omega (arith, a.0, a.1, b.0, b.1, e, lv, lw)) ]
  | inr a ↦ elim (rank_is p w lp lw) [ inl b ↦ absurd (omega (arith, a.0, a.1, b.0, b.1, e, lv, lw)) | inr b ↦ omega (arith, a.1, b.1, e) ]
]

-- ranks from a pivot that is k higher
pub rank_shifted : (p k v : ℕ) → p < 2 ^ 32 → k < 2 ^ 32 → v < 2 ^ 32 → ((k ≤ rank p v) × (rank ((p + k) % 2 ^ 32) v + k ≡ rank p v)) ⊎ ((rank p v < k) × (rank ((p + k) % 2 ^ 32) v + k ≡ rank p v + 2 ^ 32))
rank_shifted p k v lp lk lv =
    let q : ℕ = (p + k) % 2 ^ 32 in
    let lq : q < 2 ^ 32 = omega arith in
    let q_is : (q ≡ p + k) ⊎ (q + 2 ^ 32 ≡ p + k) = elim (cases_lt (p + k) (2 ^ 32)) [ inl a ↦ inl (omega (arith, a)) | inr a ↦ inr (omega (arith, a, lp, lk)) ] in
    elim (cases_lt (rank p v) k) [
      | inl below ↦ inr (
        below,
        elim q_is [
          | inl s ↦ elim (rank_is p v lp lv) [ inl a ↦ elim (rank_is q v lq lv) [ inl b ↦ omega (arith, a.0, a.1, b.0, b.1, s, below, lk, lv, lp) | inr b ↦ omega (arith, a.0, a.1, b.0, b.1, s, below, lk, lv, lp) ] | inr a ↦ elim (rank_is q v lq lv) [ inl b ↦ omega (arith, a.0, a.1, b.0, b.1, s, below, lk, lv, lp) | inr b ↦ omega (arith, a.0, a.1, b.0, b.1, s, below, lk, lv, lp) ] ]
          | inr s ↦ elim (rank_is p v lp lv) [ inl a ↦ elim (rank_is q v lq lv) [ inl b ↦ omega (arith, a.0, a.1, b.0, b.1, s, below, lk, lv, lp) | inr b ↦ omega (arith, a.0, a.1, b.0, b.1, s, below, lk, lv, lp) ] | inr a ↦ elim (rank_is q v lq lv) [ inl b ↦ omega (arith, a.0, a.1, b.0, b.1, s, below, lk, lv, lp) | inr b ↦ omega (arith, a.0, a.1, b.0, b.1, s, below, lk, lv, lp) ] ]
        ],
      )
      | inr from ↦ inl (
        from,
        elim q_is [
          | inl s ↦ elim (rank_is p v lp lv) [ inl a ↦ elim (rank_is q v lq lv) [ inl b ↦ omega (arith, a.0, a.1, b.0, b.1, s, from, lk, lv, lp) | inr b ↦ omega (arith, a.0, a.1, b.0, b.1, s, from, lk, lv, lp) ] | inr a ↦ elim (rank_is q v lq lv) [ inl b ↦ omega (arith, a.0, a.1, b.0, b.1, s, from, lk, lv, lp) | inr b ↦ omega (arith, a.0, a.1, b.0, b.1, s, from, lk, lv, lp) ] ]
          | inr s ↦ elim (rank_is p v lp lv) [ inl a ↦ elim (rank_is q v lq lv) [ inl b ↦ omega (arith, a.0, a.1, b.0, b.1, s, from, lk, lv, lp) | inr b ↦ omega (arith, a.0, a.1, b.0, b.1, s, from, lk, lv, lp) ] | inr a ↦ elim (rank_is q v lq lv) [ inl b ↦ omega (arith, a.0, a.1, b.0, b.1, s, from, lk, lv, lp) | inr b ↦ omega (arith, a.0, a.1, b.0, b.1, s, from, lk, lv, lp) ] ]
        ],
      )
    ]

-- ascending lists, by recursion
abbrev pub Rising : List ℕ → Type 0
Rising [] = Unit {0}
Rising (x ∷ xs) = ((w : ℕ) → is_in xs w ≡ true → x < w) × Rising xs

pub is_first_or_later : (x w : ℕ) (xs : List ℕ) → is_in (x ∷ xs) w ≡ true → (x ≡ w) ⊎ (is_in xs w ≡ true)
is_first_or_later x w xs =
    elim (eqb x w) as (λ c. eqb x w ≡ c → (c || is_in xs w) ≡ true → (x ≡ w) ⊎ (is_in xs w ≡ true)) [ true ↦ λ e h. inl (eqb-true x w e) | false ↦ λ e h. inr h ] refl

pub is_in_first : (x : ℕ) (xs : List ℕ) → is_in (x ∷ xs) x ≡ true
is_in_first x xs = first (is_in xs x) where
  first : (b : Bool) → (eqb x x || b) ≡ true
  first b = grind (arith, nat_tests)

pub is_in_later : (x w : ℕ) (xs : List ℕ) → is_in xs w ≡ true → is_in (x ∷ xs) w ≡ true
is_in_later x w xs h = elim (eqb x w) as (λ c. (c || is_in xs w) ≡ true) [ true ↦ refl | false ↦ h ]

apart : (xs : List ℕ) → IsStrictlyIncreasing xs → (i j : ℕ) → i < j → j < length xs → slice_index xs i < slice_index xs j
apart xs up i zero less within = absurd (omega (arith, less))
apart xs up i (suc j) less within =
    let next : slice_index xs j < slice_index xs (j + 1) = up j (omega (arith, within)) in
    let e : j + 1 ≡ suc j = omega arith in
    let step : slice_index xs j < slice_index xs (suc j) = subst (λ (n : ℕ). slice_index xs j < slice_index xs n) e next in
    elim (cases_lt i j) [
      | inl below ↦ let far : slice_index xs i < slice_index xs j = apart xs up i j below (omega (arith, within)) in omega (arith, far, step)
      | inr from ↦ let same : j ≡ i = omega (arith, from, less) in subst (λ (n : ℕ). slice_index xs n < slice_index xs (suc j)) same step
    ]

tail_rises : (x : ℕ) (xs : List ℕ) → IsStrictlyIncreasing (x ∷ xs) → IsStrictlyIncreasing xs
tail_rises x xs up k within =
    let e : suc k + 1 ≡ suc (k + 1) = omega arith in
    subst (λ (n : ℕ). slice_index xs k < slice_index (x ∷ xs) n) e (up (suc k) (omega (arith, within)))

above_first : (x : ℕ) (xs : List ℕ) → IsStrictlyIncreasing (x ∷ xs) → (w : ℕ) → is_in xs w ≡ true → x < w
above_first x xs up w h =
    let there = Any-from_list_any (λ y. eqb y w) xs h in
    let same : there.1 ≡ w = eqb-true there.1 w there.4 in
    let at_place : get_or xs there.0 0 ≡ there.1 = default_of xs there.0 there.1 there.2 there.3 in
    let far : x < get_or xs there.0 0 = apart (x ∷ xs) up 0 (suc there.0) (omega arith) (omega (arith, there.2)) in
    omega (arith, far, at_place, same)
  where
    default_of : (ys : List ℕ) (k v : ℕ) → k < length ys → get_or ys k v ≡ v → get_or ys k 0 ≡ v
    default_of [] k v lt is = absurd (omega (arith, lt))
    default_of (y ∷ ys) zero v lt is = is
    default_of (y ∷ ys) (suc k) v lt is = default_of ys k v (omega (arith, lt)) is

pub rising : (xs : List ℕ) → IsStrictlyIncreasing xs → Rising xs
rising [] up = tt
rising (x ∷ xs) up = (above_first x xs up, rising xs (tail_rises x xs up))

-- the first number from p up is the least of those
abbrev IsFirst : List ℕ → ℕ → ℕ → Type 0
IsFirst xs p v = (is_in xs v ≡ true) × (p ≤ v) × ((w : ℕ) → is_in xs w ≡ true → p ≤ w → v ≤ w)

found_first : (xs : List ℕ) (p v : ℕ) → Rising xs → find (λ x. leb p x) xs ≡ Some v → IsFirst xs p v
found_first [] p v up is = absurd (cc is)
found_first (x ∷ xs) p v up is =
    elim (leb p x) as (λ b. leb p x ≡ b → cond b (Some x) (find (λ y. leb p y) xs) ≡ Some v → IsFirst (x ∷ xs) p v) [
      | true ↦ λ t e.
          let same : x ≡ v = same_Some x v e in
          let here : p ≤ x = grind (arith, nat_tests) in
          (subst (λ (u : ℕ). is_in (x ∷ xs) u ≡ true) same (is_in_first x xs), omega (arith, here, same), λ w h le. ⊎_elim (λ first. omega (arith, first, same)) (λ later. let above : x < w = up.0 w later in omega (arith, above, same)) (is_first_or_later x w xs h))
      | false ↦ λ t e.
          let rest = found_first xs p v up.1 e in
          let lower : x < p = grind (arith, nat_tests) in
          (is_in_later x v xs rest.0, rest.1, λ w h le. ⊎_elim (λ first. absurd (omega (arith, first, le, lower))) (λ later. rest.2 w later le) (is_first_or_later x w xs h))
    ] refl is

none_from : (xs : List ℕ) (p : ℕ) → find (λ x. leb p x) xs ≡ None → (w : ℕ) → is_in xs w ≡ true → w < p
none_from [] p is w h = absurd (cc h)
none_from (x ∷ xs) p is w h =
    elim (leb p x) as (λ b. leb p x ≡ b → cond b (Some x) (find (λ y. leb p y) xs) ≡ None → w < p) [
      | true ↦ λ t e. absurd (cc e)
      | false ↦ λ t e.
          let lower : x < p = grind (arith, nat_tests) in
          ⊎_elim (λ first. omega (arith, first, lower)) (λ later. none_from xs p e w later) (is_first_or_later x w xs h)
    ] refl is

least_of_all : (xs : List ℕ) (v : ℕ) → Rising xs → slice_get xs 0 ≡ Some v → (is_in xs v ≡ true) × ((w : ℕ) → is_in xs w ≡ true → v ≤ w)
least_of_all [] v up is = absurd (cc is)
least_of_all (x ∷ xs) v up is =
    let same : x ≡ v = same_Some x v is in
    (subst (λ (u : ℕ). is_in (x ∷ xs) u ≡ true) same (is_in_first x xs), λ w h. ⊎_elim (λ first. omega (arith, first, same)) (λ later. let above : x < w = up.0 w later in omega (arith, above, same)) (is_first_or_later x w xs h))

-- members are words
pub member_word : (xs : List ℕ) → All (λ x. x < 2 ^ 32) xs → (w : ℕ) → is_in xs w ≡ true → w < 2 ^ 32
member_word xs words w h =
    let there = Any-from_list_any (λ y. eqb y w) xs h in
    let same : there.1 ≡ w = eqb-true there.1 w there.4 in
    let at_place : get_or xs there.0 there.1 < 2 ^ 32 = words there.0 there.1 there.2 in
    omega (arith, at_place, there.3, same)

-- the first number cyclically from p up has the least rank from p
pub cyclic_least : (xs : List ℕ) (p v : ℕ) → Rising xs → All (λ x. x < 2 ^ 32) xs → p < 2 ^ 32 → first_cyclic xs p ≡ Some v → (is_in xs v ≡ true) × ((w : ℕ) → is_in xs w ≡ true → rank p v ≤ rank p w)
cyclic_least xs p v up words lp is =
    elim (find (λ x. leb p x) xs) as (λ o. find (λ x. leb p x) xs ≡ o → option_or o (slice_get xs 0) ≡ Some v → (is_in xs v ≡ true) × ((w : ℕ) → is_in xs w ≡ true → rank p v ≤ rank p w)) [
      | None ↦ λ none e.
          let low = least_of_all xs v up e in
          let v_low : v < p = none_from xs p none v low.0 in
          (low.0, λ w h. let w_low : w < p = none_from xs p none w h in let le : v ≤ w = low.1 w h in omega (arith, rank_round p v v_low, rank_round p w w_low, le))
      | Some u ↦ λ some e.
          let same : u ≡ v = same_Some u v e in
          let first = found_first xs p v up (some ∙ ap Some same) in (
            first.0,
            λ w h. elim (cases_lt w p) [
              | inl low ↦ let lw : w < 2 ^ 32 = member_word xs words w h in let lv : v < 2 ^ 32 = member_word xs words v first.0 in omega (arith, rank_up p v first.1, rank_round p w low, lw, lv, lp)
              | inr from ↦ let le : v ≤ w = first.2 w h from in omega (arith, rank_up p v first.1, rank_up p w from, le)
            ],
          )
    ] refl is

module _ (xs : List ℕ) (p k : ℕ) (up : IsStrictlyIncreasing xs) (words : All (λ x. x < 2 ^ 32) xs) (lp : p < 2 ^ 32) (lk : k < 2 ^ 32) where
  low_q : (p + k) % 2 ^ 32 < 2 ^ 32
  low_q = omega arith

  pub next_found : (v : ℕ) → first_cyclic xs ((p + k) % 2 ^ 32) ≡ Some v → k ≤ rank p v → IsNext xs p k (Some v)
  next_found v is from =
      let q : ℕ = (p + k) % 2 ^ 32 in
      let least = cyclic_least xs q v (rising xs up) words low_q is in (
        least.0,
        from,
        λ w h from_w.
            let near : rank q v ≤ rank q w = least.1 w h in
            let lv : v < 2 ^ 32 = member_word xs words v least.0 in
            let lw : w < 2 ^ 32 = member_word xs words w h in
            elim (rank_shifted p k v lp lk lv) [
              | inl a ↦ elim (rank_shifted p k w lp lk lw) [ inl b ↦ omega (arith, a.1, b.1, near) | inr b ↦ absurd (omega (arith, b.0, from_w)) ]
              | inr a ↦ absurd (omega (arith, a.0, from))
            ],
      )

  pub next_missing : (v : ℕ) → first_cyclic xs ((p + k) % 2 ^ 32) ≡ Some v → rank p v < k → IsNext xs p k None
  next_missing v is below w h =
      let q : ℕ = (p + k) % 2 ^ 32 in
      let least = cyclic_least xs q v (rising xs up) words low_q is in
      let near : rank q v ≤ rank q w = least.1 w h in
      let lv : v < 2 ^ 32 = member_word xs words v least.0 in
      let lw : w < 2 ^ 32 = member_word xs words w h in
      elim (rank_shifted p k v lp lk lv) [
        | inl a ↦ absurd (omega (arith, a.0, below))
        | inr a ↦ elim (rank_shifted p k w lp lk lw) [
          | inl b ↦ absurd (omega (arith, a.1, b.1, near, rank_word p w lp lw))
          | inr b ↦ b.0
        ]
      ]

-- no element has a rank of 2 ^ 32
pub next_none : (xs : List ℕ) (p k : ℕ) → All (λ x. x < 2 ^ 32) xs → p < 2 ^ 32 → 2 ^ 32 ≤ k → IsNext xs p k None
next_none xs p k words lp high w h = omega (arith, rank_word p w lp (member_word xs words w h), high)

pub first_is_in : (xs : List ℕ) (p v : ℕ) → first_cyclic xs p ≡ Some v → is_in xs v ≡ true
first_is_in xs p v is =
    elim (find (λ x. leb p x) xs) as (λ o. find (λ x. leb p x) xs ≡ o → option_or o (slice_get xs 0) ≡ Some v → is_in xs v ≡ true) [
      | None ↦ λ none e. at_front xs v e
      | Some u ↦ λ some e. found_is_in xs (λ x. leb p x) v (some ∙ ap Some (same_Some u v e))
    ] refl is
  where
    at_front : (ys : List ℕ) (w : ℕ) → slice_get ys 0 ≡ Some w → is_in ys w ≡ true
    at_front [] w e = absurd (cc e)
    at_front (y ∷ ys) w e = subst (λ (u : ℕ). is_in (y ∷ ys) u ≡ true) (same_Some y w e) (is_in_first y ys)

    found_is_in : (ys : List ℕ) (test : ℕ → Bool) (w : ℕ) → find test ys ≡ Some w → is_in ys w ≡ true
    found_is_in [] test w e = absurd (cc e)
    found_is_in (y ∷ ys) test w e =
        elim (test y) as (λ b. cond b (Some y) (find test ys) ≡ Some w → is_in (y ∷ ys) w ≡ true) [
          | true ↦ λ f. subst (λ (u : ℕ). is_in (y ∷ ys) u ≡ true) (same_Some y w f) (is_in_first y ys)
          | false ↦ λ f. is_in_later y w ys (found_is_in ys test w f)
        ] e
