-- Numbers that stand close together.
use Rattle.std.proofs.Common.{◌≡◌, ℕ, ◌+◌, ◌-◌, ◌%◌, ◌^◌, ◌<◌, ◌≤◌, ◌||◌, nat_eq, inl, inr, Bool, List, IsTrue, sym, ap, ◌∙◌, subst, arith}
use Rattle.std.proofs.lemmas.Bool.{cases_lt}
use Rattle.lane_bits.specs.Pages.{has}
use Rattle.near_marks.specs.declared.close.Distances.{Distances}
use Rattle.near_marks.specs.declared.steps.Steps.{Steps}
use Rattle.near_marks.specs.Internal.Close.{AreDistances, IsDistance, MayMeet}
use Rattle.near_marks.specs.Internal.Near.{is_at, is_marked}
use Rattle.near_marks.proofs.Grids.{nearest}
use Rattle.near_marks.proofs.Leaving.{noted_here, noted_kept}
use Rattle.near_marks.proofs.Marking.{parts_at}

-- ---- pages

-- the numbers that are below an end stand on the page
abbrev pub ArePlacedBelow : List ℕ → Steps → ℕ → ℕ → Type 0
ArePlacedBelow page steps low end = (n : ℕ) → IsTrue (is_at steps n) → low ≤ n → n < end → IsTrue (has page (n - low))

-- the same from a last number down
abbrev pub AreTurnedBelow : List ℕ → Steps → ℕ → ℕ → ℕ → Type 0
AreTurnedBelow page steps low last end = (n : ℕ) → IsTrue (is_at steps n) → low ≤ n → n < end → IsTrue (has page (last - n))

pub placed_more : (old new : List ℕ) (steps : Steps) (low number next : ℕ) → next ≡ number + 2 ^ steps.shift → number % 2 ^ steps.shift ≡ steps.low % 2 ^ steps.shift → ((x : ℕ) → has new x ≡ (has old x || nat_eq x (number - low))) → ArePlacedBelow old steps low number → ArePlacedBelow new steps low next
placed_more old new steps low number next next_is same set before n h above lt = elim (cases_lt n number) [
  | inl less ↦ noted_kept old new (number - low) (n - low) (set (n - low)) (before n h above less)
  | inr more ↦ (
      let at = parts_at steps n h in
      let here : n ≡ number = nearest steps.shift number n (same ∙ sym at.same) more (omega (arith, lt, next_is)) in
      noted_here old new (number - low) (n - low) (set (n - low)) (ap (λ (m : ℕ). m - low) here)
      )
]

pub turned_more : (old new : List ℕ) (steps : Steps) (low last number next : ℕ) → next ≡ number + 2 ^ steps.shift → number % 2 ^ steps.shift ≡ steps.low % 2 ^ steps.shift → ((x : ℕ) → has new x ≡ (has old x || nat_eq x (last - number))) → AreTurnedBelow old steps low last number → AreTurnedBelow new steps low last next
turned_more old new steps low last number next next_is same set before n h above lt = elim (cases_lt n number) [
  | inl less ↦ noted_kept old new (last - number) (last - n) (set (last - n)) (before n h above less)
  | inr more ↦ (
      let at = parts_at steps n h in
      let here : n ≡ number = nearest steps.shift number n (same ∙ sym at.same) more (omega (arith, lt, next_is)) in
      noted_here old new (last - number) (last - n) (set (last - n)) (ap (λ (m : ℕ). last - m) here)
      )
]

-- ---- where they meet

-- the sums below an end are marked
abbrev pub AreMetBelow : List ℕ → List ℕ → List ℕ → ℕ → ℕ → ℕ → Type 0
AreMetBelow marks firsts others ends base end = (i j x : ℕ) → IsTrue (has firsts i) → IsTrue (has others j) → i < 4096 → j < 4096 → i + ends ≡ j + (base + x) → x < end → x < 4096 → IsTrue (is_marked marks x)

-- ---- how far numbers are from each other

pub met_by_distances : (firsts others : List ℕ) (d : Distances) (ends sum : ℕ) (answer : Bool) → AreDistances firsts others d → IsDistance d ends sum answer → MayMeet firsts others ends sum answer
met_by_distances firsts others d ends sum answer far tells i j h k small other is = elim (cases_lt sum ends) [
  | inl less ↦ tells.below less (subst (λ (n : ℕ). IsTrue (has d.below n)) (omega (arith, is, less)) (far.below i j h k small other (omega (arith, is, less))))
  | inr more ↦ tells.above more (subst (λ (n : ℕ). IsTrue (has d.above n)) (omega (arith, is, more)) (far.above i j h k small other (omega (arith, is, more))))
]
