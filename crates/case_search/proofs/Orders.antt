-- The order of assignments, and the least of those that meet one of two conditions.
use Rattle.std.proofs.Common.{◌≡◌, ℕ, ◌^◌, ◌<◌, get_or, ltb, List, Option, Some, None, slice_index, ◌⊎◌, inl, inr, ⊎_elim, sym, ap, ◌∙◌, subst, arith}
use Rattle.std.specs.Prelude.{MatchBool}
use Rattle.std.proofs.lemmas.Bool.{cases_lt, lt-ltb, le-ltb}
use Rattle.fd_prob.specs.declared.problem.Assignment.{Assignment}
use Rattle.fd_prob.specs.declared.slot.Slot.{Slot}
use Rattle.fd_prob.specs.declared.slot.Slot.TheVariants as slots
use Rattle.fd_prob.specs.declared.slot.TheConstants.{SLOTS}
use Rattle.fd_prob.specs.Order.{rank}
use Rattle.fd_prob.specs.Relations.{value_of}
use Rattle.fd_prob.specs.Slots.{slot_number}
use Rattle.fd_prob.proofs.Places.{in_place}
use Rattle.case_search.proofs.Ranks.{rank_injective}
use Rattle.case_search.specs.Search.{AreSame, Before, IsLeastOf, IsLesser, LeastOrNone}

-- at a place the value of x is nearer above the pivot
abbrev pub Nearer : List ℕ → Assignment → Assignment → ℕ → Type 0
Nearer ps x y n = rank (slice_index ps n) (slice_index x.values n) < rank (slice_index ps n) (slice_index y.values n)

pub rank_same : (ps : List ℕ) (x y : Assignment) (s : Slot) → value_of x s ≡ value_of y s → rank (slice_index ps (slot_number s)) (value_of x s) ≡ rank (slice_index ps (slot_number s)) (value_of y s)
rank_same ps x y s e = ap (rank (slice_index ps (slot_number s))) e

pub before_trans : (ps : List ℕ) (x y z : Assignment) → Before ps x y → Before ps y z → Before ps x z
before_trans ps x y z one two = elim (cases_lt (slot_number one.0) (slot_number two.0)) [
  | inl less ↦
      let e = rank_same ps y z one.0 (two.1 one.0 less) in
      (one.0, λ t lt. one.1 t lt ∙ two.1 t (omega (arith, lt, less)), omega (arith, one.2, e))
  | inr from ↦ elim (cases_lt (slot_number two.0) (slot_number one.0)) [
    | inl more ↦
        let e = rank_same ps x y two.0 (one.1 two.0 more) in
        (two.0, λ t lt. one.1 t (omega (arith, lt, more)) ∙ two.1 t lt, omega (arith, two.2, e))
    | inr to ↦
        let e : slot_number two.0 ≡ slot_number one.0 = omega (arith, from, to) in
        let near : Nearer ps y z (slot_number one.0) = subst (Nearer ps y z) e two.2 in
        (one.0, λ t lt. one.1 t lt ∙ two.1 t (omega (arith, lt, e)), omega (arith, one.2, near))
  ]
]

pub before_same : (ps : List ℕ) (x y z : Assignment) → Before ps x y → AreSame y z → Before ps x z
before_same ps x y z before same =
    let e = rank_same ps y z before.0 (same before.0) in
    (before.0, λ t lt. before.1 t lt ∙ same t, omega (arith, before.2, e))

-- the least by one condition is the least by another that says the same
pub as_well : (ps : List ℕ) (P Q : Assignment → Type 0) → ((y : Assignment) → P y → Q y) → ((y : Assignment) → Q y → P y) → (o : Option Assignment) → LeastOrNone ps P o → LeastOrNone ps Q o
as_well ps P Q there back None none = λ y q. none y (back y q)
as_well ps P Q there back (Some x) best = record { meets = there x best.meets; least = λ y q. best.least y (back y q) }

module _ (ps : List ℕ) (P Q : Assignment → Type 0) where
  abbrev Either : Assignment → Type 0
  Either y = P y ⊎ Q y

  only_second : ((y : Assignment) → P y → ⊥) → (b : Option Assignment) → LeastOrNone ps Q b → LeastOrNone ps Either b
  only_second none None neither = λ y either. ⊎_elim (none y) (neither y) either
  only_second none (Some x) best = record { meets = inr best.meets; least = λ y either before. ⊎_elim (none y) (λ q. best.least y q before) either }

  first_stays : (x : Assignment) → IsLeastOf ps P x → ((y : Assignment) → Q y → Before ps y x → ⊥) → IsLeastOf ps Either x
  first_stays x best above = record { meets = inl best.meets; least = λ y either before. ⊎_elim (λ p. best.least y p before) (λ q. above y q before) either }

  second_wins : (x y : Assignment) → IsLeastOf ps P x → IsLeastOf ps Q y → Before ps y x → IsLeastOf ps Either y
  second_wins x y best other before = record { meets = inr other.meets; least = λ z either lower. ⊎_elim (λ p. best.least z p (before_trans ps z y x lower before)) (λ q. other.least z q lower) either }

  first_wins : (x y : Assignment) → IsLeastOf ps P x → IsLeastOf ps Q y → Before ps x y ⊎ AreSame x y → IsLeastOf ps Either x
  first_wins x y best other order = first_stays x best (λ z q lower. other.least z q (⊎_elim (λ before. before_trans ps z x y lower before) (λ same. before_same ps z x y lower same) order))

  both_there : (x y : Assignment) (o : Option Assignment) → IsLeastOf ps P x → IsLeastOf ps Q y → IsLesser ps (Some x) (Some y) o → LeastOrNone ps Either o
  both_there x y o best other is = ⊎_elim
      (λ turned. subst (LeastOrNone ps Either) (sym turned.0) (second_wins x y best other turned.1))
      (λ kept. subst (LeastOrNone ps Either) (sym kept.0) (first_wins x y best other kept.1))
      is

  -- the lesser of the least by two conditions is the least that meets either
  pub lesser_of_both : (a b o : Option Assignment) → LeastOrNone ps P a → LeastOrNone ps Q b → IsLesser ps a b o → LeastOrNone ps Either o
  lesser_of_both None b o none least is = subst (LeastOrNone ps Either) (sym is) (only_second none b least)
  lesser_of_both (Some x) None o best none is = subst (LeastOrNone ps Either) (sym is) (first_stays x best (λ y q _. none y q))
  lesser_of_both (Some x) (Some y) o best other is = both_there x y o best other is

-- they agree below a place, and there the rank decides
module _ (ps : List ℕ) (x y : Assignment) (n : ℕ) (lt : n < 14) where
  abbrev Agree : Type 0
  Agree = (k : ℕ) → k < n → slice_index x.values k ≡ slice_index y.values k

  place : Slot
  place = get_or SLOTS n slots.Op

  place_is : slot_number place ≡ n
  unfolding place
  place_is = in_place n slots.Op lt

  pub before_at : Agree → Nearer ps x y n → Before ps x y
  before_at agree near = (place, λ t less. agree (slot_number t) (omega (arith, less, place_is)), subst (Nearer ps x y) (sym place_is) near)

pub decided_at : (ps : List ℕ) (x y : Assignment) (n a b : ℕ) → n < 14 → ((k : ℕ) → k < n → slice_index x.values k ≡ slice_index y.values k) → a ≡ rank (slice_index ps n) (slice_index x.values n) → b ≡ rank (slice_index ps n) (slice_index y.values n) → slice_index ps n < 2 ^ 32 → slice_index x.values n < 2 ^ 32 → slice_index y.values n < 2 ^ 32 → (slice_index x.values n ≡ slice_index y.values n → ⊥) → MatchBool (ltb a b) (Before ps x y) (Before ps y x ⊎ AreSame y x)
decided_at ps x y n a b lt agree a_is b_is lp lx ly differ = elim (cases_lt a b) [
  | inl less ↦ rw (lt-ltb _ _ less) (before_at ps x y n lt agree (omega (arith, less, a_is, b_is)))
  | inr from ↦ rw (le-ltb _ _ from) (elim (cases_lt b a) [
    | inl more ↦ inl (before_at ps y x n lt (λ k below. sym (agree k below)) (omega (arith, more, a_is, b_is)))
    | inr to ↦
        let e : rank (slice_index ps n) (slice_index x.values n) ≡ rank (slice_index ps n) (slice_index y.values n) = omega (arith, from, to, a_is, b_is) in
        absurd (differ (rank_injective (slice_index ps n) (slice_index x.values n) (slice_index y.values n) lp lx ly e))
  ])
]
