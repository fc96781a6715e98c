-- Words of which the bits under a mask are a number of a piece.
use Rattle.std.proofs.Common.{◌≡◌, ℕ, ◌+◌, ◌-◌, ◌%◌, ◌^◌, ◌<◌, ◌≤◌, inl, inr, Bool, true, false, ◌&&◌, eqb, ltb, leb, bit_and, refl, sym, ap, ◌∙◌, arith}
use Rattle.std.proofs.lemmas.Bool.{cases_lt, eqb-true, eq-eqb, leb-true, le-leb, lt-ltb, ltb-true, and_parts, and_from, false_from_ne_true, false≢true}
use Rattle.std.proofs.lemmas.Nat.{pow_pos, mod_below, and_assoc, and_comm, and_mask, and-not, and_le_r}
use Rattle.std.specs.Int.Bits.{and_self}
use Rattle.set_pieces.proofs.Low.{same_tests, gap, multiple_below}
use Rattle.set_pieces.proofs.Powers.{power_up}
use Rattle.set_pieces.proofs.Pieces.{test, passes, test_from, NoneWithin}

-- ---- patterns

-- the bits under one mask are masked by the other
moved : (x m n : ℕ) → bit_and (bit_and x m) n ≡ bit_and x (bit_and n m)
moved x m n = and_assoc n x m ∙ ap (bit_and x) (and_comm m n)

none_left : (x m n : ℕ) → bit_and (bit_and x (bit_and n m)) m ≡ bit_and x (bit_and n m)
none_left x m n = and_assoc m x (bit_and n m) ∙ ap (bit_and x) (and_assoc m n m ∙ ap (bit_and n) (and_self m))

pub masked_none : (x m n b : ℕ) → (bit_and b m ≡ b → ⊥) → false ≡ eqb (bit_and (bit_and x m) n) b
masked_none x m n b out = sym (false_from_ne_true _ (λ h.
    let is : bit_and x (bit_and n m) ≡ b = sym (moved x m n) ∙ eqb-true _ _ h in
    out (ap (λ (k : ℕ). bit_and k m) (sym is) ∙ none_left x m n ∙ is)))

pub masked_within : (m n b : ℕ) → bit_and b n ≡ b → bit_and b m ≡ b → bit_and b (bit_and n m) ≡ b
masked_within m n b h k = sym (and_assoc m b n) ∙ ap (λ (j : ℕ). bit_and j m) h ∙ k

pub masked_test : (x m n b : ℕ) → eqb (bit_and x (bit_and n m)) b ≡ eqb (bit_and (bit_and x m) n) b
masked_test x m n b = ap (λ (k : ℕ). eqb k b) (sym (moved x m n))

-- ---- blocks

high_part : (k y : ℕ) → k < 33 → y < 2 ^ 32 → bit_and y (2 ^ 32 - 1 - (2 ^ k - 1)) ≡ y - y % 2 ^ k
high_part k y lt small =
    let bound : 2 ^ k ≤ 2 ^ 32 = power_up k 32 (omega (arith, lt)) in
    let low : bit_and (2 ^ k - 1) y ≡ y % 2 ^ k = and_comm (2 ^ k - 1) y ∙ and_mask y k in
    omega (arith, and-not 32 (2 ^ k - 1) y (omega (arith, bound, pow_pos k)) small, low, and_comm y (2 ^ 32 - 1 - (2 ^ k - 1)))

in_block : (s v y : ℕ) → 0 < s → v % s ≡ 0 → eqb (y - y % s) v ≡ (leb v y && ltb y (v + s))
in_block s v y pos even = same_tests _ _
    (λ h.
    let is : y - y % s ≡ v = eqb-true _ _ h in
    let within : y % s < s = mod_below y s pos in
    and_from _ _ (le-leb v y (omega arith)) (lt-ltb y (v + s) (omega arith)))
    (λ h.
    let parts = and_parts _ _ h in
    let from : v ≤ y = leb-true _ _ parts.0 in
    let below : y < v + s = ltb-true _ _ parts.1 in
    let within : y % s < s = mod_below y s pos in
    let whole : (y - y % s) % s ≡ 0 = multiple_below s y pos in
    eq-eqb _ _ (elim (cases_lt v (y - y % s)) [
      | inl less ↦ (let far : v + s ≤ y - y % s = gap s v (y - y % s) pos (even ∙ sym whole) less in absurd (omega arith))
      | inr to ↦ elim (cases_lt (y - y % s) v) [
        | inl more ↦ (let far : y - y % s + s ≤ v = gap s (y - y % s) v pos (whole ∙ sym even) more in absurd (omega arith))
        | inr same ↦ omega arith
      ]
    ]))

pub block_test : (x m k v low : ℕ) → k < 33 → x < 2 ^ 32 → low ≡ 2 ^ k - 1 → v % 2 ^ k ≡ 0 →
    eqb (bit_and x (bit_and m (2 ^ 32 - 1 - low))) v ≡ (leb v (bit_and x m) && ltb (bit_and x m) (v + 2 ^ k))
block_test x m k v low lt small is even =
    let word : bit_and x m < 2 ^ 32 = omega (arith, and_comm x m, and_le_r m x, small) in
    ap (λ (n : ℕ). eqb (bit_and x (bit_and m (2 ^ 32 - 1 - n))) v) is
    ∙ ap (λ (n : ℕ). eqb n v) (sym (and_assoc (2 ^ 32 - 1 - (2 ^ k - 1)) x m) ∙ high_part k (bit_and x m) lt word)
    ∙ in_block (2 ^ k) v (bit_and x m) (pow_pos k) even

-- ---- ends

-- the test, up to the mask
abbrev pub UpTo : (ℕ → Bool) → ℕ → (ℕ → Bool) → Type 0
UpTo t mask u = (y : ℕ) → u y ≡ (t y && (leb 0 y && ltb y (mask + 1)))

up_own : (t u : ℕ → Bool) (mask y : ℕ) → UpTo t mask u → u y ≡ true → t y ≡ true
up_own t u mask y is h = (and_parts _ _ (sym (is y) ∙ h)).0

up_from : (t u : ℕ → Bool) (mask y : ℕ) → UpTo t mask u → y ≤ mask → t y ≡ true → u y ≡ true
up_from t u mask y is le h = is y ∙ and_from _ _ h (and_from _ _ (le-leb 0 y (omega arith)) (lt-ltb y (mask + 1) (omega (arith, le))))

-- the first and the last number of those up to the mask, and ends around them
pub record AreAround (m u : ℕ → Bool) (mask first last from end : ℕ) : Type 0 where
  pub first_is : u first ≡ true
  pub none_below : (y : ℕ) → y < first → u y ≡ false
  pub last_is : u last ≡ true
  pub none_above : (y : ℕ) → last < y → u y ≡ false
  pub from_most : from ≤ first
  pub none_from : NoneWithin m from first
  pub end_least : last < end
  pub none_to : (y : ℕ) → last < y → y < end → y ≤ mask → m y ≡ false

pub around_is : (m u : ℕ → Bool) (low high mask first last from end y : ℕ) → UpTo (test m low high) mask u → AreAround m u mask first last from end →
    y ≤ mask → test m low high y ≡ ((leb from y && ltb y end) && m y)
around_is m u low high mask first last from end y is a le = same_tests _ _
    (λ h.
    let held : u y ≡ true = up_from (test m low high) u mask y is le h in
    let above : from ≤ y = elim (cases_lt y first) [
      | inl before ↦ absurd (false≢true (sym (a.none_below y before) ∙ held))
      | inr at ↦ omega (arith, at, a.from_most)
    ] in
    let below : y < end = elim (cases_lt last y) [
      | inl past ↦ absurd (false≢true (sym (a.none_above y past) ∙ held))
      | inr to ↦ omega (arith, to, a.end_least)
    ] in
    and_from _ _ (and_from _ _ (le-leb _ _ above) (lt-ltb _ _ below)) (passes m low high y h).matched)
    (λ h.
    let parts = and_parts _ _ h in
    let ends = and_parts _ _ parts.0 in
    let above : from ≤ y = leb-true _ _ ends.0 in
    let below : y < end = ltb-true _ _ ends.1 in
    let lowest = passes m low high first (up_own (test m low high) u mask first is a.first_is) in
    let highest = passes m low high last (up_own (test m low high) u mask last is a.last_is) in
    elim (cases_lt y first) [
      | inl before ↦ absurd (false≢true (sym (a.none_from y above before) ∙ parts.1))
      | inr at ↦ elim (cases_lt last y) [
        | inl past ↦ absurd (false≢true (sym (a.none_to y past below le) ∙ parts.1))
        | inr to ↦ test_from m low high y (record { above = omega (arith, at, lowest.above); below = omega (arith, to, highest.below); matched = parts.1 })
      ]
    ])

-- ---- tests

pub and_third : (a b c : Bool) → ((a && b) && c) ≡ (a && (b && c))
and_third true b c = refl
and_third false b c = refl
