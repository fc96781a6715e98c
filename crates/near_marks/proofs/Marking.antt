-- Sums of steps that are near.
use Rattle.std.proofs.Common.{◌≡◌, ℕ, ◌+◌, ◌-◌, ◌%◌, ◌^◌, ◌<◌, ◌≤◌, ◌==◌, ◌&&◌, inl, inr, Bool, true, false, not, List, IsTrue, nat_le, nat_eq, min, refl, sym, ap, ◌∙◌, subst, eqb-true, eq-eqb, arith}
use Rattle.std.proofs.lemmas.Bool.{cases_lt, leb-true, and_parts}
use Rattle.std.proofs.lemmas.Nat.{pow_pos}
use Rattle.lane_bits.specs.Pages.{has}
use Rattle.near_marks.specs.declared.steps.Steps.{Steps}
use Rattle.near_marks.specs.Internal.Near.{AreStillMarked, HasNearGap, HaveEach, HaveMoved, HaveSteps, HaveSumsFrom, IsAroundSteps, IsNext, MayFillGap, is_at, is_marked}
use Rattle.near_marks.proofs.Grids.{added, fewer, lowered, nearest}

-- the number is between the ends, and a multiple from the lowest
pub record IsAt (s : Steps) (n : ℕ) : Type 0 where
  pub above : s.low ≤ n
  pub below : n ≤ s.high
  pub same : n % 2 ^ s.shift ≡ s.low % 2 ^ s.shift

pub parts_at : (s : Steps) (n : ℕ) → IsTrue (is_at s n) → IsAt s n
parts_at s n h =
    let both = and_parts (nat_le s.low n && nat_le n s.high) (n % 2 ^ s.shift == s.low % 2 ^ s.shift) h in
    let ends = and_parts (nat_le s.low n) (nat_le n s.high) both.0 in
    record { above = leb-true s.low n ends.0; below = leb-true n s.high ends.1; same = eqb-true (n % 2 ^ s.shift) (s.low % 2 ^ s.shift) both.1 }

-- ---- one number after another

-- the numbers from the first one up, so far apart, that are below an end
abbrev pub HaveEachBelow : List ℕ → ℕ → ℕ → ℕ → Type 0
HaveEachBelow marks first end k = (x : ℕ) → first ≤ x → x < end → x % 2 ^ k ≡ first % 2 ^ k → IsTrue (is_marked marks x)

marked_still : (a b : Bool) → IsTrue (not a) → IsTrue (not (a && not b))
marked_still true b h = absurd (cc h)
marked_still false b h = refl

marked_here : (a b : Bool) → IsTrue b → IsTrue (not (a && not b))
marked_here true true h = refl
marked_here true false h = absurd (cc h)
marked_here false b h = refl

-- what was marked is, where one number more is
pub one_kept : (old new : List ℕ) (number x : ℕ) → has new x ≡ (has old x && not (nat_eq x number)) → IsTrue (is_marked old x) → IsTrue (is_marked new x)
one_kept old new number x is h = subst (λ (b : Bool). IsTrue (not b)) (sym is) (marked_still (has old x) (nat_eq x number) h)

-- and so is that number
pub one_marked : (old new : List ℕ) (number x : ℕ) → has new x ≡ (has old x && not (nat_eq x number)) → x ≡ number → IsTrue (is_marked new x)
one_marked old new number x is same = subst (λ (b : Bool). IsTrue (not b)) (sym is) (marked_here (has old x) (nat_eq x number) (eq-eqb x number same))

pub each_more : (old new : List ℕ) (first number next k : ℕ) → ((x : ℕ) → has new x ≡ (has old x && not (nat_eq x number))) → next ≡ number + 2 ^ k → number % 2 ^ k ≡ first % 2 ^ k → HaveEachBelow old first number k → HaveEachBelow new first next k
each_more old new first number next k set next_is same before x above below alike = elim (cases_lt x number) [
  | inl less ↦ one_kept old new number x (set x) (before x above less alike)
  | inr more ↦ one_marked old new number x (set x) (nearest k number x (same ∙ sym alike) more (omega (arith, below, next_is)))
]

pub each_kept : (first old new : List ℕ) (number : ℕ) → ((x : ℕ) → has new x ≡ (has old x && not (nat_eq x number))) → AreStillMarked first old → AreStillMarked first new
each_kept first old new number set before x small h = one_kept old new number x (set x) (before x small h)

-- ---- from the base on

pub steps_each : (marks : List ℕ) (low high k base end first : ℕ) → end ≡ min high (base + 4096 - 1) → IsNext low k base first → HaveEach marks (first - base) (end - base) k → HaveSteps marks low high k base
steps_each marks low high k base end first end_is next each n x above below alike is small =
    let from : base ≤ n = omega (arith, is) in
    let reached : first ≤ n = next.first n above from alike in
    let at : x ≡ n - base = omega (arith, is) in
    each x (omega (arith, at, reached)) (omega (arith, end_is, below, is, small))
    (ap (λ (m : ℕ). m % 2 ^ k) at ∙ lowered (2 ^ k) base n first (pow_pos k) (alike ∙ sym next.same) reached next.reached)

pub moved : (marks : List ℕ) (s : Steps) (distance base : ℕ) → HaveSteps marks (s.low + distance) (s.high + distance) s.shift base → HaveMoved marks s distance base
moved marks s distance base steps m x h is small =
    let here = parts_at s m h in
    steps (m + distance) x (omega (arith, here.above)) (omega (arith, here.below)) (added (2 ^ s.shift) m s.low distance distance here.same refl) is small

-- ---- sums of two steps

-- those with a number of the coarser that is below an end
abbrev pub HaveSumsBelow : List ℕ → Steps → Steps → ℕ → ℕ → Type 0
HaveSumsBelow marks fine coarse base end = (m n x : ℕ) → IsTrue (is_at fine m) → IsTrue (is_at coarse n) → n < end → m + n ≡ base + x → x < 4096 → IsTrue (is_marked marks x)

pub below_more : (old new : List ℕ) (fine coarse : Steps) (base number next : ℕ) → next ≡ number + 2 ^ coarse.shift → number % 2 ^ coarse.shift ≡ coarse.low % 2 ^ coarse.shift → AreStillMarked old new → HaveMoved new fine number base → HaveSumsBelow old fine coarse base number → HaveSumsBelow new fine coarse base next
below_more old new fine coarse base number next next_is same kept moves before m n x h k lt is small = elim (cases_lt n number) [
  | inl less ↦ kept x small (before m n x h k less is small)
  | inr more ↦ (
      let two = parts_at coarse n k in
      let here : n ≡ number = nearest coarse.shift number n (same ∙ sym two.same) more (omega (arith, lt, next_is)) in
      moves m x h (omega (arith, is, here)) small
      )
]

pub by_finer : (marks : List ℕ) (fine coarse : Steps) (base : ℕ) → fine.shift ≤ coarse.shift → HaveSteps marks (fine.low + coarse.low) (fine.high + coarse.high) fine.shift base → HaveSumsFrom marks fine coarse base
by_finer marks fine coarse base le steps m n x h k is small =
    let one = parts_at fine m h in
    let two = parts_at coarse n k in
    steps (m + n) x (omega (arith, one.above, two.above)) (omega (arith, one.below, two.below))
    (added (2 ^ fine.shift) m fine.low n coarse.low one.same (fewer fine.shift coarse.shift n coarse.low le two.same)) is small

-- ---- gaps between

-- where no sum between the hulls is a gap, each near sum is marked
pub filled : (marks : List ℕ) (firsts others : List Steps) (low high least most from : ℕ) (answer : Bool) → IsAroundSteps firsts (low, high) → IsAroundSteps others (least, most) → from ≤ low + least → HasNearGap marks from (high + most) answer → MayFillGap marks firsts others answer
filled marks firsts others low high least most from answer one two begin gap none m n h k near =
    let a = one m h in
    let b = two n k in
    gap (m + n) (omega (arith, a.0, b.0, begin)) (omega (arith, a.1, b.1)) near none
