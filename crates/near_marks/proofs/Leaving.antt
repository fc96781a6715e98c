-- What numbers leave when they are divided by 64.
use Rattle.std.proofs.Common.{◌≡◌, ℕ, ◌+◌, ◌-◌, ◌%◌, ◌^◌, ◌<◌, ◌≤◌, ◌||◌, inl, inr, Bool, nat_eq, List, IsTrue, sym, ap, ◌∙◌, subst, eq-eqb, arith}
use Rattle.std.proofs.lemmas.Bool.{cases_lt, or_left, or_right}
use Rattle.std.proofs.lemmas.Nat.{pow_pos}
use Rattle.lane_bits.specs.Pages.{has}
use Rattle.near_marks.specs.declared.steps.Steps.{Steps}
use Rattle.near_marks.specs.Internal.Near.{IsAroundSteps, MayFillGap, is_at}
use Rattle.near_marks.specs.Internal.Rests.{AreRestsKept, HasGapLeaving, HaveRests, HaveSumsOf, HaveSumsWith}
use Rattle.near_marks.proofs.Grids.{fewer, multiple, nearest}
use Rattle.near_marks.proofs.Marking.{parts_at}

-- one more is noted
pub noted_kept : (old new : List ℕ) (rest r : ℕ) → has new r ≡ (has old r || nat_eq r rest) → IsTrue (has old r) → IsTrue (has new r)
noted_kept old new rest r is h = subst IsTrue (sym is) (or_left (has old r) (nat_eq r rest) h)

pub noted_here : (old new : List ℕ) (rest r : ℕ) → has new r ≡ (has old r || nat_eq r rest) → r ≡ rest → IsTrue (has new r)
noted_here old new rest r is same = subst IsTrue (sym is) (or_right (has old r) (nat_eq r rest) (eq-eqb r rest same))

pub kept_more : (first old new : List ℕ) (rest : ℕ) → ((x : ℕ) → has new x ≡ (has old x || nat_eq x rest)) → AreRestsKept first old → AreRestsKept first new
kept_more first old new rest set before r h = noted_kept old new rest r (set r) (before r h)

-- a number with the rest of one of the steps, at most 63 from the lowest
near_one : ℕ → ℕ → ℕ
near_one low x = low + (x - low) % 64

-- it is one of the steps
alike : (k low x : ℕ) → low ≤ x → x % 2 ^ k ≡ low % 2 ^ k → (low + (x - low) % 64) % 2 ^ k ≡ low % 2 ^ k
alike k low x above same = elim (cases_lt 6 k) [
  | inl wide ↦ (
      let few : x % 2 ^ 6 ≡ low % 2 ^ 6 = fewer 6 k x low (omega (arith, wide)) same in
      let none : (x - low) % 2 ^ 6 ≡ 0 = multiple (2 ^ 6) x low (pow_pos 6) few above in
      let is : low + (x - low) % 64 ≡ low = omega (arith, none) in
      ap (λ (n : ℕ). n % 2 ^ k) is
      )
  | inr narrow ↦ (
      let row : (low + (x - low) % 64) % 2 ^ 6 ≡ x % 2 ^ 6 = omega (arith, above) in
      fewer k 6 (low + (x - low) % 64) x narrow row ∙ same
      )
]

-- the rests of those whose nearest with the same rest is below an end are noted
abbrev pub HaveRestsBelow : List ℕ → Steps → ℕ → Type 0
HaveRestsBelow rests steps end = (x : ℕ) → IsTrue (is_at steps x) → steps.low + (x - steps.low) % 64 < end → IsTrue (has rests (x % 64))

pub rests_more : (old new : List ℕ) (steps : Steps) (number next : ℕ) → next ≡ number + 2 ^ steps.shift → number % 2 ^ steps.shift ≡ steps.low % 2 ^ steps.shift → ((r : ℕ) → has new r ≡ (has old r || nat_eq r (number % 64))) → HaveRestsBelow old steps number → HaveRestsBelow new steps next
rests_more old new steps number next next_is same set before x h lt = elim (cases_lt (steps.low + (x - steps.low) % 64) number) [
  | inl less ↦ noted_kept old new (number % 64) (x % 64) (set (x % 64)) (before x h less)
  | inr more ↦ (
      let at = parts_at steps x h in
      let own : (steps.low + (x - steps.low) % 64) % 2 ^ steps.shift ≡ steps.low % 2 ^ steps.shift = alike steps.shift steps.low x at.above at.same in
      let here : steps.low + (x - steps.low) % 64 ≡ number = nearest steps.shift number (steps.low + (x - steps.low) % 64) (same ∙ sym own) more (omega (arith, lt, next_is)) in
      noted_here old new (number % 64) (x % 64) (set (x % 64)) (omega (arith, here, at.above))
      )
]

-- ---- sums

pub sums_more : (old new others : List ℕ) (rest other : ℕ) → ((r : ℕ) → has new r ≡ (has old r || nat_eq r ((rest + other) % 64))) → HaveSumsWith old rest others other → HaveSumsWith new rest others (other + 1)
sums_more old new others rest other set before y below h = elim (cases_lt y other) [
  | inl less ↦ noted_kept old new ((rest + other) % 64) ((rest + y) % 64) (set ((rest + y) % 64)) (before y less h)
  | inr more ↦ (let here : y ≡ other = omega (arith, below, more) in noted_here old new ((rest + other) % 64) ((rest + y) % 64) (set ((rest + y) % 64)) (ap (λ (n : ℕ). (rest + n) % 64) here))
]

pub sums_same : (sums others : List ℕ) (rest other : ℕ) → (IsTrue (has others other) → ⊥) → HaveSumsWith sums rest others other → HaveSumsWith sums rest others (other + 1)
sums_same sums others rest other none before y below h = elim (cases_lt y other) [
  | inl less ↦ before y less h
  | inr more ↦ (let here : y ≡ other = omega (arith, below, more) in absurd (none (subst (λ (n : ℕ). IsTrue (has others n)) here h)))
]

pub pairs_more : (old new firsts others : List ℕ) (rest : ℕ) → HaveSumsWith new rest others 64 → AreRestsKept old new → HaveSumsOf old firsts rest others → HaveSumsOf new firsts (rest + 1) others
pairs_more old new firsts others rest one kept before x y below small h k = elim (cases_lt x rest) [
  | inl less ↦ kept ((x + y) % 64) (before x y less small h k)
  | inr more ↦ (let here : x ≡ rest = omega (arith, below, more) in subst (λ (n : ℕ). IsTrue (has new ((n + y) % 64))) (sym here) (one y small k))
]

pub pairs_same : (sums firsts others : List ℕ) (rest : ℕ) → (IsTrue (has firsts rest) → ⊥) → HaveSumsOf sums firsts rest others → HaveSumsOf sums firsts (rest + 1) others
pairs_same sums firsts others rest none before x y below small h k = elim (cases_lt x rest) [
  | inl less ↦ before x y less small h k
  | inr more ↦ (let here : x ≡ rest = omega (arith, below, more) in absurd (none (subst (λ (n : ℕ). IsTrue (has firsts n)) here h)))
]

-- where no gap between the hulls leaves what a sum leaves, each near sum is marked
pub filled_leaving : (marks rests ones twos : List ℕ) (firsts others : List Steps) (low high least most from : ℕ) (answer : Bool) → IsAroundSteps firsts (low, high) → IsAroundSteps others (least, most) → from ≤ low + least → HaveRests ones firsts → HaveRests twos others → HaveSumsOf rests ones 64 twos → HasGapLeaving marks rests from (high + most) answer → MayFillGap marks firsts others answer
filled_leaving marks rests ones twos firsts others low high least most from answer one two begin first other sums gap none m n h k near =
    let a = one m h in
    let b = two n k in
    let rest : (m % 64 + n % 64) % 64 ≡ (m + n) % 64 = omega arith in
    gap (m + n) (omega (arith, a.0, b.0, begin)) (omega (arith, a.1, b.1)) near
    (subst (λ (r : ℕ). IsTrue (has rests r)) rest (sums (m % 64) (n % 64) (omega arith) (omega arith) (first m h) (other n k))) none
