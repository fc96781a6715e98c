-- Turns that are drawn.
use Rattle.std.proofs.Common.{◌≡◌, ◌≢◌, ℕ, zero, suc, ◌+◌, ◌-◌, ◌%◌, ◌<◌, ◌≤◌, List, [], ◌∷◌, ◌++◌, length, take, get_or, append_assoc, refl, sym, ap, ◌∙◌, subst, inl, inr, arith}
use Rattle.std.specs.Prelude.{slice_index}
use Rattle.std.proofs.lemmas.Bool.{cases_eq, eq-eqb, ne_eqb}
use Rattle.std.proofs.lemmas.List.{get_or-set_same, get_or-set_other, length-set}
use Rattle.rand_pcg.specs.Lcg.{Lcg}
use Rattle.rand_pcg.specs.Pcg.{pcg32}
use Rattle.tpl_admit.specs.System.{times}
use Rattle.run_order.specs.Orders.{drawn, one_less, picked, turns_in, with_turns}

-- ---- harts that have turns left

-- the value is the number of such a hart
pub record IsReadyAt (from : ℕ) (left : List ℕ) (k : ℕ) : Type 0 where
  pub at : ℕ
  pub is : k ≡ from + at
  pub within : at < length left
  pub some : slice_index left at ≢ 0

later : (from n : ℕ) (ns : List ℕ) (k : ℕ) → IsReadyAt (from + 1) ns k → IsReadyAt from (n ∷ ns) k
later from n ns k r = record { at = suc r.at; is = omega (arith, r.is); within = omega (arith, r.within); some = r.some }

pub ready_at : (from : ℕ) (left : List ℕ) (i : ℕ) → i < length (with_turns from left) → IsReadyAt from left (slice_index (with_turns from left) i)
ready_at from [] i within = absurd (omega (arith, within))
ready_at from (n ∷ ns) i within = elim (cases_eq n 0) [
  | inl none ↦ rw (eq-eqb n 0 none) (later from n ns (slice_index (with_turns (from + 1) ns) i) (ready_at (from + 1) ns i (rw (eq-eqb n 0 none) at within)))
  | inr some ↦ rw (ne_eqb n 0 some) (go i (rw (ne_eqb n 0 some) at within) (λ j l. ready_at (from + 1) ns j l) some)
]
  where
    go : (j : ℕ) → j < length (from ∷ with_turns (from + 1) ns) → ((j : ℕ) → j < length (with_turns (from + 1) ns) → IsReadyAt (from + 1) ns (slice_index (with_turns (from + 1) ns) j)) → n ≢ 0
        → IsReadyAt from (n ∷ ns) (slice_index (from ∷ with_turns (from + 1) ns) j)
    go zero l rest some = record { at = 0; is = omega arith; within = omega arith; some = some }
    go (suc j) l rest some = later from n ns (slice_index (with_turns (from + 1) ns) j) (rest j (omega (arith, l)))

sum_first : (n : ℕ) (ns : List ℕ) → turns_in (n ∷ ns) ≡ n + turns_in ns
sum_first n ns = refl

pub some_ready : (from : ℕ) (left : List ℕ) → 0 < turns_in left → 0 < length (with_turns from left)
some_ready from [] some = absurd (omega (arith, some))
some_ready from (n ∷ ns) some = elim (cases_eq n 0) [
  | inl none ↦
      let rest : 0 < turns_in ns = omega (arith, some, none, sum_first n ns) in
      rw (eq-eqb n 0 none) (some_ready (from + 1) ns rest)
  | inr there ↦ rw (ne_eqb n 0 there) (omega arith)
]

pub picked_ready : (draw : ℕ) (left : List ℕ) → 0 < turns_in left → IsReadyAt 0 left (picked draw left)
picked_ready draw left some =
    let any : 0 < length (with_turns 0 left) = some_ready 0 left some in
    ready_at 0 left (draw % length (with_turns 0 left)) (omega (arith, any))

pub picked_within : (draw : ℕ) (left : List ℕ) → 0 < turns_in left → picked draw left < length left
picked_within draw left some = let r = picked_ready draw left some in omega (arith, r.is, r.within)

pub picked_some : (draw : ℕ) (left : List ℕ) → 0 < turns_in left → 1 ≤ slice_index left (picked draw left)
picked_some draw left some =
    let r = picked_ready draw left some in
    let same : r.at ≡ picked draw left = omega (arith, r.is) in
    let there : slice_index left (picked draw left) ≢ 0 = subst (λ (k : ℕ). slice_index left k ≢ 0) same r.some in
    omega (arith, there)

-- ---- a turn less

pub sum_less : (left : List ℕ) (k : ℕ) → k < length left → 1 ≤ slice_index left k → turns_in (one_less k left) + 1 ≡ turns_in left
sum_less [] k within some = absurd (omega (arith, within))
sum_less (n ∷ ns) zero within some =
    let one : 1 ≤ n = some in
    let less : turns_in (one_less 0 (n ∷ ns)) ≡ n - 1 + turns_in ns = refl in
    omega (arith, one, less, sum_first n ns)
sum_less (n ∷ ns) (suc k) within some =
    let rest : turns_in (one_less k ns) + 1 ≡ turns_in ns = sum_less ns k (omega (arith, within)) some in
    let less : turns_in (one_less (suc k) (n ∷ ns)) ≡ n + turns_in (one_less k ns) = refl in
    omega (arith, rest, less, sum_first n ns)

none_left : (left : List ℕ) (k : ℕ) → turns_in left ≡ 0 → slice_index left k ≡ 0
none_left [] k none = refl
none_left (n ∷ ns) zero none =
    let nothing : n ≡ 0 = omega (arith, none, sum_first n ns) in
    nothing
none_left (n ∷ ns) (suc k) none = none_left ns k (omega (arith, none, sum_first n ns))

-- what is left for the turns behind the next one
pub rest_left : (n draw : ℕ) (left : List ℕ) → turns_in left ≡ suc n → turns_in (one_less (picked draw left) left) ≡ n
rest_left n draw left all =
    let some : 0 < turns_in left = omega (arith, all) in
    let less : turns_in (one_less (picked draw left) left) + 1 ≡ turns_in left = sum_less left (picked draw left) (picked_within draw left some) (picked_some draw left some) in
    omega (arith, less, all)

-- ---- laws

pub drawn_taken : (n : ℕ) (g : Lcg) (left : List ℕ) (k : ℕ) → turns_in left ≡ n → times k (drawn n g left) ≡ slice_index left k
drawn_taken zero g left k all = sym (none_left left k all)
drawn_taken (suc n) g left k all =
    let some : 0 < turns_in left = omega (arith, all) in
    let p : ℕ = picked (pcg32 g).0 left in
    let rest = drawn_taken n (pcg32 g).1 (one_less p left) k (rest_left n (pcg32 g).0 left all) in
    elim (cases_eq k p) [
      | inl same ↦
          let less : slice_index (one_less p left) k ≡ slice_index left p - 1 = ap (λ (i : ℕ). slice_index (one_less p left) i) same ∙ get_or-set_same left p (slice_index left p - 1) 0 (picked_within (pcg32 g).0 left some) in
          let one : 1 ≤ slice_index left p = picked_some (pcg32 g).0 left some in
          let here : slice_index left p ≡ slice_index left k = ap (λ (i : ℕ). slice_index left i) (sym same) in
          rw (eq-eqb k p same) (omega (arith, rest, less, one, here))
      | inr other ↦ rw (ne_eqb k p other) (rest ∙ get_or-set_other left p k (slice_index left p - 1) 0 other)
    ]

pub drawn_harts : (n : ℕ) (g : Lcg) (left : List ℕ) → turns_in left ≡ n → (i d : ℕ) → i < length (drawn n g left) → get_or (drawn n g left) i d < length left
drawn_harts zero g left all i d within = absurd (omega (arith, within))
drawn_harts (suc n) g left all zero d within = picked_within (pcg32 g).0 left (omega (arith, all))
drawn_harts (suc n) g left all (suc i) d within =
    let p : ℕ = picked (pcg32 g).0 left in
    let rest = drawn_harts n (pcg32 g).1 (one_less p left) (rest_left n (pcg32 g).0 left all) i d (omega (arith, within)) in
    omega (arith, rest, length-set left p (slice_index left p - 1))

-- ---- a sum, one after another

pub sum_to : (left : List ℕ) (i : ℕ) → i < length left → turns_in (take i left) + get_or left i 0 ≡ turns_in (take (i + 1) left)
sum_to [] i within = absurd (omega (arith, within))
sum_to (n ∷ ns) zero within = let one : turns_in (take 1 (n ∷ ns)) ≡ n + 0 = refl in omega (arith, one)
sum_to (n ∷ ns) (suc i) within =
    let rest : turns_in (take i ns) + get_or ns i 0 ≡ turns_in (take (i + 1) ns) = sum_to ns i (omega (arith, within)) in
    let some : turns_in (take (suc i) (n ∷ ns)) ≡ n + turns_in (take i ns) = refl in
    let more : turns_in (take (suc (i + 1)) (n ∷ ns)) ≡ n + turns_in (take (i + 1) ns) = refl in
    let same : suc i + 1 ≡ suc (i + 1) = omega arith in
    let here : get_or (n ∷ ns) (suc i) 0 ≡ get_or ns i 0 = refl in
    let end : turns_in (take (suc i + 1) (n ∷ ns)) ≡ turns_in (take (suc (i + 1)) (n ∷ ns)) = ap (λ (k : ℕ). turns_in (take k (n ∷ ns))) same in
    omega (arith, rest, some, more, here, end)

pub sum_up_to : (left : List ℕ) (i : ℕ) → turns_in (take i left) ≤ turns_in left
sum_up_to [] zero = omega arith
sum_up_to [] (suc i) = omega arith
sum_up_to (n ∷ ns) zero = let none : turns_in (take 0 (n ∷ ns)) ≡ 0 = refl in omega (arith, none)
sum_up_to (n ∷ ns) (suc i) =
    let some : turns_in (take (suc i) (n ∷ ns)) ≡ n + turns_in (take i ns) = refl in
    omega (arith, some, sum_up_to ns i, sum_first n ns)

-- ---- an order, one turn after another

-- the turns that were drawn and those that are left are all
pub record AreDrawn (all order left : List ℕ) (g : Lcg) (n count : ℕ) : Type 0 where
  pub turns : order ++ drawn n g left ≡ all
  pub left_are : turns_in left ≡ n
  pub harts : length left ≡ count

pub drawn_next : (all order after left rest : List ℕ) (g new : Lcg) (n count k : ℕ) → AreDrawn all order left g (suc n) count → after ≡ order ++ k ∷ [] → k ≡ picked (pcg32 g).0 left → new ≡ (pcg32 g).1
    → rest ≡ one_less (picked (pcg32 g).0 left) left → AreDrawn all after rest new n count
drawn_next all order after left rest g new n count k are appended is draws less = record {
  turns = ap (λ (xs : List ℕ). xs ++ drawn n new rest) appended ∙ append_assoc order (k ∷ []) (drawn n new rest)
      ∙ ap (λ (j : ℕ). order ++ j ∷ drawn n new rest) is ∙ ap (λ (h : Lcg). order ++ p ∷ drawn n h rest) draws ∙ ap (λ (xs : List ℕ). order ++ p ∷ drawn n (pcg32 g).1 xs) less ∙ are.turns;
  left_are = ap turns_in less ∙ rest_left n (pcg32 g).0 left are.left_are;
  harts = ap length less ∙ length-set left p (slice_index left p - 1) ∙ are.harts;
}
  where
    p : ℕ
    p = picked (pcg32 g).0 left
