-- What pieces hold.
use Rattle.std.proofs.Common.{◌≡◌, ℕ, zero, suc, ◌+◌, ◌-◌, ◌%◌, ◌^◌, ◌<◌, ◌≤◌, ◌⊎◌, inl, inr, Bool, true, false, ◌&&◌, not, eqb, ltb, leb, min, max, refl, sym, ap, ◌∙◌, arith}
use Rattle.std.specs.Int.Bits.{bit_and, and_self}
use Rattle.std.proofs.lemmas.Bool.{cases_lt, eqb-true, eq-eqb, leb-true, le-leb, lt-leb, lt-ltb, ltb-true, and_parts, and_from, false_from_ne_true, false≢true}
use Rattle.std.proofs.lemmas.Bool.Decides.{nat_tests}
use Rattle.std.proofs.lemmas.Nat.{and_assoc, and_mask}
use Rattle.set_pieces.specs.Counting.{one, total}
use Rattle.set_pieces.specs.declared.pattern.Pattern.{Pattern}
use Rattle.set_pieces.specs.Internal.Patterns.{matches_below}
use Rattle.set_pieces.proofs.Low.{same_tests, mod_down}
use Rattle.set_pieces.proofs.Totals.{total_next, total_zero, total_stays}

abbrev pub test : (ℕ → Bool) → ℕ → ℕ → ℕ → Bool
test m low high x = (leb low x && leb x high) && m x

pub record Passes (m : ℕ → Bool) (low high x : ℕ) : Type 0 where
  pub above : low ≤ x
  pub below : x ≤ high
  pub matched : m x ≡ true

pub passes : (m : ℕ → Bool) (low high x : ℕ) → test m low high x ≡ true → Passes m low high x
passes m low high x h =
    let parts = and_parts (leb low x && leb x high) (m x) h in
    let ends = and_parts (leb low x) (leb x high) parts.0 in
    record { above = leb-true _ _ ends.0; below = leb-true _ _ ends.1; matched = parts.1 }

pub test_from : (m : ℕ → Bool) (low high x : ℕ) → Passes m low high x → test m low high x ≡ true
test_from m low high x h = and_from _ _ (and_from _ _ (le-leb _ _ h.above) (le-leb _ _ h.below)) h.matched

-- ---- cut at both ends

-- no number from one on and below another passes
abbrev pub NoneWithin : (ℕ → Bool) → ℕ → ℕ → Type 0
NoneWithin m from end = (x : ℕ) → from ≤ x → x < end → m x ≡ false

pub clip_none : (m : ℕ → Bool) (low high from end next x : ℕ) → NoneWithin m (max from low) next → min end (high + 1) ≤ next →
    false ≡ (test m low high x && (leb from x && ltb x end))
clip_none m low high from end next x none empty = sym (false_from_ne_true _ (λ h.
    let parts = and_parts (test m low high x) (leb from x && ltb x end) h in
    let ends = and_parts (leb from x) (ltb x end) parts.1 in
    let p = passes m low high x parts.0 in
    let at : from ≤ x = leb-true _ _ ends.0 in
    let below : x < end = ltb-true _ _ ends.1 in
    false≢true (sym (none x (omega (arith, p.above)) (omega (arith, p.below))) ∙ p.matched)))

pub clip_some : (low high from end low' end' x : ℕ) (b : Bool) → low' ≡ max from low → end' ≡ min end (high + 1) → low' < end' →
    ((leb low' x && leb x (end' - 1)) && b) ≡ (((leb low x && leb x high) && b) && (leb from x && ltb x end))
clip_some low high from end low' end' x true at to lt = grind (arith, nat_tests)
clip_some low high from end low' end' x false at to lt = grind (arith, nat_tests)

-- none is below the lowest one, and all are below what is above the highest one
pub none_below : (m : ℕ → Bool) (low high end x : ℕ) → end ≤ low → (test m low high x && ltb x end) ≡ false
none_below m low high end x le = false_from_ne_true _ (λ h.
    let parts = and_parts (test m low high x) (ltb x end) h in
    let p = passes m low high x parts.0 in
    let below : x < end = ltb-true _ _ parts.1 in
    absurd (omega (arith, p.above, below, le)))

pub all_below : (m : ℕ → Bool) (low high end x : ℕ) → high < end → (test m low high x && ltb x end) ≡ test m low high x
all_below m low high end x past = same_tests _ _
    (λ h. (and_parts (test m low high x) (ltb x end) h).0)
    (λ h.
    let p = passes m low high x h in
    let below : x < end = omega (arith, p.below, past) in
    and_from _ _ h (lt-ltb _ _ below))

pub none_before : (m : ℕ → Bool) (low high from next x : ℕ) → NoneWithin m (max from low) next → from ≤ x → x < next → test m low high x ≡ false
none_before m low high from next x none le lt = false_from_ne_true _ (λ h.
    let p = passes m low high x h in
    false≢true (sym (none x (omega (arith, p.above)) lt) ∙ p.matched))

pub none_from : (m : ℕ → Bool) (low high from next x : ℕ) → NoneWithin m (max from low) next → high < next → from ≤ x → test m low high x ≡ false
none_from m low high from next x none past le = false_from_ne_true _ (λ h.
    let p = passes m low high x h in
    false≢true (sym (none x (omega (arith, p.above)) (omega (arith, p.below))) ∙ p.matched))

-- ---- how many there are

outside_none : (m : ℕ → Bool) (low high x : ℕ) → (x < low) ⊎ (high < x) → one (test m low high x) ≡ 0
outside_none m low high x h = ap one (false_from_ne_true _ (λ t.
    let p = passes m low high x t in
    elim h [ inl before ↦ omega (arith, p.above) | inr past ↦ omega (arith, p.below) ]))

inside_is : (m : ℕ → Bool) (low high x : ℕ) → low ≤ x → x ≤ high → one (test m low high x) ≡ one (m x)
inside_is m low high x from to = (λ i. one ((le-leb low x from i && le-leb x high to i) && m x))

pub counted : (m : ℕ → Bool) (low high d : ℕ) → low + d ≤ high + 1 →
    total (λ y. one (test m low high y)) (low + d) + total (λ y. one (m y)) low ≡ total (λ y. one (m y)) (low + d)
counted m low high zero le =
    let none : total (λ y. one (test m low high y)) (low + 0) ≡ 0 = total_zero _ (low + 0) (λ x lt. outside_none m low high x (inl (omega arith))) in
    let same : low + 0 ≡ low = omega arith in
    omega (arith, none, ap (total (λ y. one (m y))) same)
counted m low high (suc d) le =
    let is : low + suc d ≡ low + d + 1 = omega arith in
    rw is (omega (
      arith,
      counted m low high d (omega arith),
      total_next (λ y. one (test m low high y)) (low + d),
      total_next (λ y. one (m y)) (low + d),
      inside_is m low high (low + d) (omega arith) (omega arith),
    ))

pub count_none : (m : ℕ → Bool) (low high x : ℕ) → min x (high + 1) ≤ low → low ≤ high → 0 ≡ total (λ y. one (test m low high y)) x
count_none m low high x le ordered = sym (total_zero _ x (λ y lt. outside_none m low high y (inl (omega arith))))

pub count_some : (m : ℕ → Bool) (low high x e : ℕ) → e ≡ min x (high + 1) → low < e →
    total (λ y. one (test m low high y)) x + total (λ y. one (m y)) low ≡ total (λ y. one (m y)) e
count_some m low high x e is lt =
    let reached : low + (e - low) ≡ e = omega arith in
    omega (
      arith,
      total_stays (λ y. one (test m low high y)) e x (omega arith) (λ y from below. outside_none m low high y (inr (omega arith))),
      rw reached at (counted m low high (e - low) (omega arith)),
    )

-- ---- two pieces

pub both_are : (s a b : Bool) (low high x : ℕ) → ((s && (a && b)) && (leb low x && ltb x (high + 1))) ≡ ((s && a) && ((leb low x && leb x high) && b))
both_are true true true low high x = grind (arith, nat_tests)
both_are true true false low high x = grind (arith, nat_tests)
both_are true false b low high x = refl
both_are false a b low high x = refl

-- patterns that have nothing in common
pub both_none : (s a t b : Bool) → false ≡ (a && b) → false ≡ ((s && a) && (t && b))
both_none s true t true h = absurd (false≢true h)
both_none true true true false h = refl
both_none true true false false h = refl
both_none false true t false h = refl
both_none true false t b h = refl
both_none false false t b h = refl

-- ---- moved up and down

pub raised_is : (m r : ℕ → Bool) (low high d y : ℕ) → ((z : ℕ) → d ≤ z → r z ≡ m (z - d)) →
    test r (low + d) (high + d) y ≡ (leb d y && test m low high (y - d))
raised_is m r low high d y same = elim (cases_lt y d) [
  | inl below ↦ (
      let none : leb d y ≡ false = lt-leb d y below in
      rw none (false_from_ne_true _ (λ h. let p = passes r (low + d) (high + d) y h in omega (arith, p.above)))
      )
  | inr from ↦ (
      let all : leb d y ≡ true = le-leb d y from in
      rw all (same_tests _ _
      (λ h. let p = passes r (low + d) (high + d) y h in
      test_from m low high (y - d) (record { above = omega (arith, p.above); below = omega (arith, p.below); matched = sym (same y from) ∙ p.matched }))
      (λ h. let p = passes m low high (y - d) h in
      test_from r (low + d) (high + d) y (record { above = omega (arith, p.above); below = omega (arith, p.below); matched = same y from ∙ p.matched })))
      )
]

pub lowered_is : (m r : ℕ → Bool) (low high d y : ℕ) → d ≤ low → low ≤ high → r y ≡ m (y + d) →
    test r (low - d) (high - d) y ≡ test m low high (y + d)
lowered_is m r low high d y le ordered same = same_tests _ _
    (λ h. let p = passes r (low - d) (high - d) y h in
    test_from m low high (y + d) (record { above = omega (arith, p.above); below = omega (arith, p.below); matched = sym same ∙ p.matched }))
    (λ h. let p = passes m low high (y + d) h in
    test_from r (low - d) (high - d) y (record { above = omega (arith, p.above); below = omega (arith, p.below); matched = same ∙ p.matched }))

-- ---- what one leaves of another

before_all : (p : Bool) (x low high : ℕ) → x < low → low ≤ high →
    one (p && (leb 0 x && ltb x low)) + one (p && (leb (high + 1) x && ltb x (2 ^ 32))) + one (p && (leb low x && leb x high)) ≡ one p
before_all true x low high lt ordered = grind (arith, nat_tests)
before_all false x low high lt ordered = refl

after_all : (p : Bool) (x low high : ℕ) → (p ≡ true → x < 2 ^ 32) → high < x → low ≤ high →
    one (p && (leb 0 x && ltb x low)) + one (p && (leb (high + 1) x && ltb x (2 ^ 32))) + one (p && (leb low x && leb x high)) ≡ one p
after_all true x low high fits lt ordered = (let below : x < 2 ^ 32 = fits refl in grind (arith, nat_tests))
after_all false x low high fits lt ordered = refl

between : (p : Bool) (x low high : ℕ) → low ≤ x → x ≤ high →
    one (p && (leb 0 x && ltb x low)) + one (p && (leb (high + 1) x && ltb x (2 ^ 32))) + one (p && (leb low x && leb x high)) ≡ one p
between true x low high from to = grind (arith, nat_tests)
between false x low high from to = refl

-- the words of p are those below two ends, those above, and those between
pub three_parts : (p : Bool) (x low high : ℕ) → (p ≡ true → x < 2 ^ 32) → low ≤ high →
    one (p && (leb 0 x && ltb x low)) + one (p && (leb (high + 1) x && ltb x (2 ^ 32))) + one (p && (leb low x && leb x high)) ≡ one p
three_parts p x low high fits ordered = elim (cases_lt x low) [
  | inl below ↦ before_all p x low high below ordered
  | inr from ↦ elim (cases_lt high x) [
    | inl above ↦ after_all p x low high fits above ordered
    | inr to ↦ between p x low high from to
  ]
]

pub two_parts : (p s m : Bool) → one p ≡ one (p && not (s && m)) + one ((p && s) && m)
two_parts true true true = refl
two_parts true true false = refl
two_parts true false m = refl
two_parts false s m = refl

pub and_all : (a : Bool) → (a && true) ≡ a
and_all true = refl
and_all false = refl

pub next_part : (a k k' : Bool) → (k' ≡ true → k ≡ true) → one (a && k) ≡ one (a && k') + one (a && (k && not k'))
next_part true true true h = refl
next_part true true false h = refl
next_part true false true h = absurd (false≢true (h refl))
next_part true false false h = refl
next_part false k k' h = refl

-- bits that stand below bit k are bits that stand below the next
pub matches_fewer : (p : Pattern) (k x : ℕ) → matches_below p (k + 1) x ≡ true → matches_below p k x ≡ true
unfolding matches_below
matches_fewer p k x h = eq-eqb _ _
    (sym (low_part p.mask k)
    ∙ ap (λ (n : ℕ). n % 2 ^ k) (eqb-true _ _ h)
    ∙ mod_down k (k + 1) p.bits (omega arith)) where
      masked : (m j : ℕ) → bit_and x (m % 2 ^ j) ≡ bit_and x m % 2 ^ j
      masked m j = ap (λ (n : ℕ). bit_and x n) (sym (and_mask m j)) ∙ sym (and_assoc (2 ^ j - 1) x m) ∙ and_mask (bit_and x m) j

      low_part : (m k : ℕ) → bit_and x (m % 2 ^ (k + 1)) % 2 ^ k ≡ bit_and x (m % 2 ^ k)
      low_part m k = ap (λ (n : ℕ). n % 2 ^ k) (masked m (k + 1)) ∙ mod_down k (k + 1) (bit_and x m) (omega arith) ∙ sym (masked m k)

-- nothing has a bit under a mask that the mask doesn't have
pub none_outside : (x mask bits : ℕ) → (bit_and bits mask ≡ bits → ⊥) → false ≡ eqb (bit_and x mask) bits
none_outside x mask bits out = sym (false_from_ne_true _ (λ h.
    let is : bit_and x mask ≡ bits = eqb-true _ _ h in
    out (ap (λ (n : ℕ). bit_and n mask) (sym is) ∙ and_assoc mask x mask ∙ ap (bit_and x) (and_self mask) ∙ is)))

-- ---- in halves

pub halves_are : (s : Bool) (a b c : Bool) → one a ≡ one b + one c → one (s && a) ≡ one (s && b) + one (s && c)
halves_are true a b c h = h
halves_are false a b c h = refl

pub all_words : (b : Bool) (x : ℕ) → x < 2 ^ 32 → (b && (leb 0 x && ltb x (2 ^ 32))) ≡ b
all_words true x lt = grind (arith, nat_tests)
all_words false x lt = refl

-- ---- bit 0 cleared

from_even : (low x : ℕ) → leb (low + low % 2) x ≡ leb low (x - x % 2)
from_even low x = same_tests _ _
    (λ h. let from : low + low % 2 ≤ x = leb-true _ _ h in le-leb _ _ (omega (arith, from)))
    (λ h. let from : low ≤ x - x % 2 = leb-true _ _ h in le-leb _ _ (omega (arith, from)))

to_odd : (high x : ℕ) → leb x (high - high % 2 + 1) ≡ leb (x - x % 2) high
to_odd high x = same_tests _ _
    (λ h. let to : x ≤ high - high % 2 + 1 = leb-true _ _ h in le-leb _ _ (omega (arith, to)))
    (λ h. let to : x - x % 2 ≤ high = leb-true _ _ h in le-leb _ _ (omega (arith, to)))

pub odd_is : (low high x : ℕ) (m n : Bool) → m ≡ n → ((leb (low + low % 2) x && leb x (high - high % 2 + 1)) && m) ≡ ((leb low (x - x % 2) && leb (x - x % 2) high) && n)
odd_is low high x m n same = λ i. (from_even low x i && to_odd high x i) && same i

pub odd_crossed : (low high x : ℕ) (n : Bool) → high - high % 2 + 1 < low + low % 2 → false ≡ ((leb low (x - x % 2) && leb (x - x % 2) high) && n)
odd_crossed low high x n crossed = sym (false_from_ne_true _ (λ h.
    let p = passes (λ _. n) low high (x - x % 2) h in omega (arith, p.above, p.below, crossed)))

pub and_none : (s b : Bool) → false ≡ b → false ≡ (s && b)
and_none true b none = none
and_none false b none = refl
