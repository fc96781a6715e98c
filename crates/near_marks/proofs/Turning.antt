-- Numbers below 4,096 by what they leave when they are divided by 64.
use Rattle.std.proofs.Common.{◌≡◌, ℕ, ◌+◌, ◌-◌, ◌*◌, ◌/◌, ◌%◌, ◌^◌, ◌<◌, ◌≤◌, ◌&&◌, ◌||◌, inl, inr, Bool, true, false, not, nat_eq, List, IsTrue, refl, sym, ap, ◌∙◌, eqb-true, eq-eqb, arith}
use Rattle.std.proofs.lemmas.Bool.{cases_lt}
use Rattle.lane_bits.specs.Pages.{has}
use Rattle.near_marks.specs.Internal.Near.{AreStillMarked, HaveEach, is_marked}
use Rattle.near_marks.specs.Internal.Turned.{AreTurned, IsFirstTurned, NoneTurned, place_of}
use Rattle.near_marks.proofs.Grids.{fewer, nearest}
use Rattle.near_marks.proofs.Marking.{one_kept, one_marked}

-- two numbers stand at two places
pub same_place : (x y : ℕ) → x < 4096 → y < 4096 → place_of x ≡ place_of y → x ≡ y
same_place x y small other same = omega (arith, small, other, same)

equal_tests : (a b c d : ℕ) → (a ≡ b → c ≡ d) → (c ≡ d → a ≡ b) → nat_eq a b ≡ nat_eq c d
equal_tests a b c d one two = by (nat_eq a b) (nat_eq c d) (λ h. eq-eqb c d (one (eqb-true a b h))) (λ h. eq-eqb a b (two (eqb-true c d h))) where
  by : (p q : Bool) → (IsTrue p → IsTrue q) → (IsTrue q → IsTrue p) → p ≡ q
  by true q f g = sym (f refl)
  by false true f g = g refl
  by false false f g = refl

place_tests : (x y : ℕ) → x < 4096 → y < 4096 → nat_eq (place_of x) (place_of y) ≡ nat_eq x y
place_tests x y small other = equal_tests (place_of x) (place_of y) x y (same_place x y small other) (λ same. ap place_of same)

-- a number is taken out of both lists
pub both_without : (gaps turned new fresh : List ℕ) (number place : ℕ) → number < 4096 → place ≡ place_of number → AreTurned gaps turned →
    ((x : ℕ) → has new x ≡ (has gaps x && not (nat_eq x number))) → ((x : ℕ) → has fresh x ≡ (has turned x && not (nat_eq x place))) → AreTurned new fresh
both_without gaps turned new fresh number place small is are one two x lt =
    two (place_of x) ∙ ap (λ (n : ℕ). has turned (place_of x) && not (nat_eq (place_of x) n)) is ∙ ap (λ (b : Bool). has turned (place_of x) && not b) (place_tests x number lt small)
    ∙ ap (λ (b : Bool). b && not (nat_eq x number)) (are x lt) ∙ sym (one x)

-- a number is put into both
pub both_with : (gaps turned new fresh : List ℕ) (number place : ℕ) → number < 4096 → place ≡ place_of number → AreTurned gaps turned →
    ((x : ℕ) → has new x ≡ (has gaps x || nat_eq x number)) → ((x : ℕ) → has fresh x ≡ (has turned x || nat_eq x place)) → AreTurned new fresh
both_with gaps turned new fresh number place small is are one two x lt =
    two (place_of x) ∙ ap (λ (n : ℕ). has turned (place_of x) || nat_eq (place_of x) n) is ∙ ap (λ (b : Bool). has turned (place_of x) || b) (place_tests x number lt small)
    ∙ ap (λ (b : Bool). b || nat_eq x number) (are x lt) ∙ sym (one x)

unmarked : (a : Bool) → a ≡ false → IsTrue (not a)
unmarked true h = absurd (cc h)
unmarked false h = refl

-- the first place that the second list has tells the first number
pub first_turned : (gaps turned : List ℕ) (from place number : ℕ) → AreTurned gaps turned → place < 4096 → number ≡ place % 64 * 64 + place / 64 → from ≤ place →
    ((p : ℕ) → from ≤ p → p < place → has turned p ≡ false) → IsFirstTurned gaps from number
first_turned gaps turned from place number are small is le least =
    let there : place_of number ≡ place = omega (arith, small, is) in
    record {
      within = omega (arith, small, is);
      reached = omega (arith, there, le);
      first = λ x lt above below. unmarked (has gaps x) (sym (are x lt) ∙ least (place_of x) above (omega (arith, below, there)));
    }

pub none_turned : (gaps turned : List ℕ) (from : ℕ) → AreTurned gaps turned → ((p : ℕ) → from ≤ p → has turned p ≡ false) → NoneTurned gaps from
none_turned gaps turned from are none x lt above = unmarked (has gaps x) (sym (are x lt) ∙ none (place_of x) above)

-- ---- what numbers leave

has_from : (a b : Bool) → a ≡ b → IsTrue a → IsTrue b
has_from a b same h = sym same ∙ h

left_of : (a b : Bool) → IsTrue (a && b) → IsTrue a
left_of true b h = refl
left_of false b h = h

-- where one of two tests passes
either_of : (a b : Bool) (C : Type 0) → IsTrue (a || b) → (IsTrue a → C) → (IsTrue b → C) → C
either_of true b C h one two = one refl
either_of false b C h one two = two h

or_one : (a b : Bool) → IsTrue a → IsTrue (a || b)
or_one true b h = refl
or_one false b h = absurd (cc h)

or_other : (a b : Bool) → IsTrue b → IsTrue (a || b)
or_other true b h = refl
or_other false b h = h

pub rests_without : (gaps rests new : List ℕ) (number : ℕ) → ((x : ℕ) → x < 4096 → IsTrue (has gaps x) → IsTrue (has rests (x % 64))) → ((x : ℕ) → has new x ≡ (has gaps x && not (nat_eq x number))) → (x : ℕ) → x < 4096 → IsTrue (has new x) → IsTrue (has rests (x % 64))
rests_without gaps rests new number are set x lt h = are x lt (left_of (has gaps x) (not (nat_eq x number)) (has_from (has new x) (has gaps x && not (nat_eq x number)) (set x) h))

pub rests_with : (gaps rests new fresh : List ℕ) (number : ℕ) → ((x : ℕ) → x < 4096 → IsTrue (has gaps x) → IsTrue (has rests (x % 64))) → ((x : ℕ) → has new x ≡ (has gaps x || nat_eq x number)) → ((x : ℕ) → has fresh x ≡ (has rests x || nat_eq x (number % 64)))
    → (x : ℕ) → x < 4096 → IsTrue (has new x) → IsTrue (has fresh (x % 64))
rests_with gaps rests new fresh number are one two x lt h = two (x % 64) ∙ either_of (has gaps x) (nat_eq x number) (IsTrue (has rests (x % 64) || nat_eq (x % 64) (number % 64))) (has_from (has new x) (has gaps x || nat_eq x number) (one x) h)
    (λ old. or_one (has rests (x % 64)) (nat_eq (x % 64) (number % 64)) (are x lt old))
    (λ here. or_other (has rests (x % 64)) (nat_eq (x % 64) (number % 64)) (eq-eqb (x % 64) (number % 64) (ap (λ (n : ℕ). n % 64) (eqb-true x number here))))

-- ---- a row

-- what stands from a place on before another one is marked
abbrev pub AreMarkedTo : List ℕ → ℕ → ℕ → Type 0
AreMarkedTo gaps from to = (x : ℕ) → x < 4096 → from ≤ place_of x → place_of x < to → IsTrue (is_marked gaps x)

pub to_next : (old new : List ℕ) (begin from number next : ℕ) → ((x : ℕ) → has new x ≡ (has old x && not (nat_eq x number))) → next ≡ place_of number + 1 → IsFirstTurned old from number → AreMarkedTo old begin from → AreMarkedTo new begin next
to_next old new begin from number next set is first before x lt above below = elim (cases_lt (place_of x) from) [
  | inl less ↦ one_kept old new number x (set x) (before x lt above less)
  | inr more ↦ elim (cases_lt (place_of x) (place_of number)) [
    | inl less ↦ one_kept old new number x (set x) (first.first x lt more less)
    | inr at ↦ one_marked old new number x (set x) (same_place x number lt first.within (omega (arith, at, below, is)))
  ]
]

row_place : (first last x : ℕ) → last < 4096 → first ≤ x → x ≤ last → x % 2 ^ 6 ≡ first % 2 ^ 6 → (place_of first ≤ place_of x) × (place_of x ≤ place_of first + (last - first) / 64)
row_place first last x end above below same = (omega (arith, end, above, below, same), omega (arith, end, above, below, same))

-- where all to the last place of the row is marked, the row is
pub row_marked : (gaps : List ℕ) (first last from begin end : ℕ) → last < 4096 → begin ≡ place_of first → end ≡ begin + (last - first) / 64 → AreMarkedTo gaps begin from → ((x : ℕ) → x < 4096 → from ≤ place_of x → place_of x ≤ end → IsTrue (is_marked gaps x)) → HaveEach gaps first last 6
row_marked gaps first last from begin end small begin_is end_is before rest x above below same =
    let at = row_place first last x small above below same in
    elim (cases_lt (place_of x) from) [
      | inl less ↦ before x (omega (arith, small, below)) (omega (arith, at.0, begin_is)) less
      | inr more ↦ rest x (omega (arith, small, below)) more (omega (arith, at.1, begin_is, end_is))
    ]

-- ---- rows

-- the numbers from the first to the last one, 2 ^ k apart, that are in a row which begins before a number
abbrev pub HaveRowsBelow : List ℕ → ℕ → ℕ → ℕ → ℕ → Type 0
HaveRowsBelow gaps first last k end = (x : ℕ) → first ≤ x → x ≤ last → x % 2 ^ k ≡ first % 2 ^ k → first + (x - first) % 64 < end → IsTrue (is_marked gaps x)

in_row : (first x : ℕ) → first ≤ x → (first + (x - first) % 64) % 2 ^ 6 ≡ x % 2 ^ 6
in_row first x above = omega (arith, above)

pub row_more : (old new : List ℕ) (first last number next k : ℕ) → k ≤ 6 → last < 4096 → next ≡ number + 2 ^ k → first ≤ number → number % 2 ^ k ≡ first % 2 ^ k → AreStillMarked old new → HaveEach new number last 6 → HaveRowsBelow old first last k number → HaveRowsBelow new first last k next
row_more old new first last number next k le small next_is from same kept row before x above below alike lt = elim (cases_lt (first + (x - first) % 64) number) [
  | inl less ↦ kept x (omega (arith, small, below)) (before x above below alike less)
  | inr more ↦ (
      let own : (first + (x - first) % 64) % 2 ^ k ≡ x % 2 ^ k = fewer k 6 (first + (x - first) % 64) x le (in_row first x above) in
      let here : first + (x - first) % 64 ≡ number = nearest k number (first + (x - first) % 64) (same ∙ sym alike ∙ sym own) more (omega (arith, lt, next_is)) in
      row x (omega (arith, here, above)) below (sym (in_row first x above) ∙ ap (λ (n : ℕ). n % 2 ^ 6) here)
      )
]
