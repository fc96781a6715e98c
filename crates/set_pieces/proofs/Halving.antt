-- Numbers that match a pattern, by the halves of the numbers and of the pattern.
use Rattle.std.proofs.Common.{◌≡◌, ℕ, zero, suc, ◌+◌, ◌-◌, ◌*◌, ◌/◌, ◌%◌, ◌<◌, ◌≤◌, inl, inr, Bool, true, false, eqb, min, bit_and, refl, sym, ap, ◌∙◌, arith}
use Rattle.std.proofs.lemmas.Bool.{cases_eq, eq-eqb, ne_eqb}
use Rattle.std.proofs.lemmas.Bool.Decides.{nat_tests}
use Rattle.std.proofs.lemmas.Nat.{and_le_l, and_le_r}
use Rattle.std.specs.Int.Bits.{and_step}
use mir.Val.{bool_byte}
use Rattle.set_pieces.specs.declared.pattern.Pattern.{Pattern}
use Rattle.set_pieces.specs.Counting.{one, total}
use Rattle.set_pieces.specs.Internal.Patterns.{matches}
use Rattle.set_pieces.proofs.Totals.{total_none, total_next, total_same, total_add, total_most}

pub record IsHalf (p h : Pattern) : Type 0 where
  pub mask : h.mask ≡ p.mask / 2
  pub bits : h.bits ≡ p.bits / 2

same_halves : (a b u v d : ℕ) → a ≡ u * 2 + d → b ≡ v * 2 + d → eqb a b ≡ eqb u v
same_halves a b u v d h k = grind (arith, nat_tests)

-- the lowest bits of what is within the mask
lowest : (p : Pattern) → p.bits % 2 ≤ p.mask % 2
lowest p = omega (arith, p.within, and_step p.bits p.mask, and_le_l (p.bits / 2) (p.mask / 2))

halved : (p h : Pattern) → IsHalf p h → (x : ℕ) → min (x % 2) (p.mask % 2) ≡ p.bits % 2 → matches p x ≡ matches h (x / 2)
unfolding matches
halved p h half x low =
    let by_mask : bit_and x p.mask ≡ bit_and (x / 2) h.mask * 2 + p.bits % 2 =
    and_step x p.mask ∙ (λ i. bit_and (x / 2) (sym half.mask i) * 2 + low i) in
    same_halves _ _ (bit_and (x / 2) h.mask) h.bits (p.bits % 2) by_mask (omega (arith, half.bits))

-- the mask has not the lowest bit
half_free : (p h : Pattern) → IsHalf p h → p.mask % 2 ≡ 0 → (x : ℕ) → matches p x ≡ matches h (x / 2)
half_free p h half free x = halved p h half x (omega (arith, lowest p))

-- it has, and the number's lowest bit is that of the pattern
half_fixed : (p h : Pattern) → IsHalf p h → p.mask % 2 ≡ 1 → (x : ℕ) → x % 2 ≡ p.bits % 2 → matches p x ≡ matches h (x / 2)
half_fixed p h half fixed x same = halved p h half x (omega arith)

half_other : (p : Pattern) → p.mask % 2 ≡ 1 → (x : ℕ) → (x % 2 ≡ p.bits % 2 → ⊥) → matches p x ≡ false
unfolding matches
half_other p fixed x other = ne_eqb _ _ (λ e. other (omega (arith, e, and_step x p.mask)))

-- ---- the first that matches

pub record IsFirst (p : Pattern) (from n : ℕ) : Type 0 where
  pub matching : matches p n ≡ true
  pub reached : from ≤ n
  pub first : (x : ℕ) → from ≤ x → x < n → matches p x ≡ false

-- every number matches where the mask is empty
pub all_match : (p : Pattern) → p.mask ≡ 0 → (x : ℕ) → matches p x ≡ true
unfolding matches
all_match p none x =
    let free : bit_and x p.mask ≡ 0 = omega (arith, none, and_le_r x p.mask) in
    let nothing : p.bits ≡ 0 = omega (arith, none, p.within, and_le_r p.bits p.mask) in
    eq-eqb _ _ (free ∙ sym nothing)

pub first_here : (p h : Pattern) (from n : ℕ) → IsHalf p h → p.mask % 2 ≡ 0 → IsFirst h (from / 2) n → n ≡ from / 2 → matches p from ≡ true
first_here p h from n half free next here = half_free p h half free from ∙ ap (matches h) (sym here) ∙ next.matching

pub first_free : (p h : Pattern) (from n : ℕ) → IsHalf p h → p.mask % 2 ≡ 0 → IsFirst h (from / 2) n → (n ≡ from / 2 → ⊥) → IsFirst p from (2 * n)
first_free p h from n half free next other = record {
  matching = half_free p h half free (2 * n) ∙ ap (matches h) (omega arith) ∙ next.matching;
  reached = omega (arith, next.reached);
  first = λ x low high. half_free p h half free x ∙ next.first (x / 2) (omega arith) (omega arith);
}

pub first_even : (p h : Pattern) (from n : ℕ) → IsHalf p h → p.mask % 2 ≡ 1 → p.bits % 2 ≡ 0 → IsFirst h ((from + 1) / 2) n → IsFirst p from (2 * n)
first_even p h from n half fixed even next = record {
  matching = half_fixed p h half fixed (2 * n) (omega arith) ∙ ap (matches h) (omega arith) ∙ next.matching;
  reached = omega (arith, next.reached);
  first = λ x low high. elim (cases_eq (x % 2) (p.bits % 2)) [
    | inl same ↦ half_fixed p h half fixed x same ∙ next.first (x / 2) (omega arith) (omega arith)
    | inr other ↦ half_other p fixed x other
  ];
}

pub first_odd : (p h : Pattern) (from n : ℕ) → IsHalf p h → p.mask % 2 ≡ 1 → p.bits % 2 ≡ 1 → IsFirst h (from / 2) n → IsFirst p from (2 * n + 1)
first_odd p h from n half fixed odd next = record {
  matching = half_fixed p h half fixed (2 * n + 1) (omega arith) ∙ ap (matches h) (omega arith) ∙ next.matching;
  reached = omega (arith, next.reached);
  first = λ x low high. elim (cases_eq (x % 2) (p.bits % 2)) [
    | inl same ↦ half_fixed p h half fixed x same ∙ next.first (x / 2) (omega arith) (omega arith)
    | inr other ↦ half_other p fixed x other
  ];
}

-- ---- the numbers between two

-- two patterns that say the same of the numbers' halves, and of their lowest bits
pub record IsWithHalf (p h q r : Pattern) : Type 0 where
  pub first : IsHalf p h
  pub second : IsHalf q r
  pub mask : q.mask % 2 ≡ p.mask % 2
  pub bits : q.bits % 2 ≡ p.bits % 2

same_by_halves : (p h q r : Pattern) → IsWithHalf p h q r → (x : ℕ) → matches r (x / 2) ≡ matches h (x / 2) → matches q x ≡ matches p x
same_by_halves p h q r are x same = elim (cases_eq (p.mask % 2) 0) [
  | inl free ↦ half_free q r are.second (are.mask ∙ free) x ∙ same ∙ sym (half_free p h are.first free x)
  | inr other ↦
      let fixed : p.mask % 2 ≡ 1 = omega (arith, other) in
      elim (cases_eq (x % 2) (p.bits % 2)) [
        | inl low ↦ half_fixed q r are.second (are.mask ∙ fixed) x (low ∙ sym are.bits) ∙ same ∙ sym (half_fixed p h are.first fixed x low)
        | inr high ↦ half_other q (are.mask ∙ fixed) x (λ e. high (e ∙ are.bits)) ∙ sym (half_other p fixed x high)
      ]
]

-- a number that matches has a half that does
pub low_half : (p h : Pattern) (x : ℕ) → IsHalf p h → matches p x ≡ true → matches h (x / 2) ≡ true
low_half p h x half is = elim (cases_eq (p.mask % 2) 0) [
  | inl free ↦ sym (half_free p h half free x) ∙ is
  | inr other ↦
      let fixed : p.mask % 2 ≡ 1 = omega (arith, other) in
      elim (cases_eq (x % 2) (p.bits % 2)) [
        | inl low ↦ sym (half_fixed p h half fixed x low) ∙ is
        | inr high ↦ absurd (differ (sym (half_other p fixed x high) ∙ is))
      ]
]
  where
    differ : false ≡ true → ⊥
    differ e = cc

-- a pattern is within its mask where its half is
pub within_pair : (m b m' b' : ℕ) → bit_and b' m' ≡ b' → bit_and b m ≡ b → bit_and (2 * b' + b % 2) (2 * m' + m % 2) ≡ 2 * b' + b % 2
within_pair m b m' b' half own =
    let first : (2 * b' + b % 2) / 2 ≡ b' = omega arith in
    let second : (2 * m' + m % 2) / 2 ≡ m' = omega arith in
    let low : min (b % 2) (m % 2) ≡ b % 2 = omega (arith, own, and_step b m, and_le_l (b / 2) (m / 2)) in
    omega (arith, and_step (2 * b' + b % 2) (2 * m' + m % 2), low, half, ap (λ (n : ℕ). bit_and n ((2 * m' + m % 2) / 2)) first, ap (bit_and b') second)

pub same_between : (p h q r : Pattern) (low high : ℕ) → IsWithHalf p h q r → ((x : ℕ) → low / 2 ≤ x → x ≤ high / 2 → matches r x ≡ matches h x) → (x : ℕ) → low ≤ x → x ≤ high → matches q x ≡ matches p x
same_between p h q r low high are same x from to = same_by_halves p h q r are x (same (x / 2) (omega (arith, from)) (omega (arith, to)))

-- ---- how many match

abbrev count : Pattern → ℕ → ℕ
count p x = total (λ y. one (matches p y)) x

total_pairs : (f : ℕ → ℕ) (n : ℕ) → total f (2 * n) ≡ total (λ k. f (2 * k) + f (2 * k + 1)) n
unfolding total
total_pairs f zero = refl
total_pairs f (suc n) =
    let is : 2 * suc n ≡ 2 * n + 1 + 1 = omega arith in
    rw is (omega (arith, total_next f (2 * n + 1), total_next f (2 * n), total_pairs f n))

-- what the conversion of a test gives
pub byte_is : (b : Bool) → bool_byte b ≡ one b
byte_is true = refl
byte_is false = refl

pub one_most : (b : Bool) → one b ≤ 1
one_most true = omega arith
one_most false = omega arith

pub count_most : (p : Pattern) (x : ℕ) → count p x ≤ x
count_most p x = total_most (λ y. one (matches p y)) x (λ y. one_most (matches p y))

pub count_all : (p : Pattern) → p.mask ≡ 0 → (x : ℕ) → count p x ≡ x
count_all p none zero = total_none (λ y. one (matches p y))
count_all p none (suc x) =
    let is : suc x ≡ x + 1 = omega arith in
    let here : one (matches p x) ≡ 1 = ap one (all_match p none x) in
    rw is (omega (arith, total_next (λ y. one (matches p y)) x, count_all p none x, here))

-- with the number that has no other beside it in its pair
add_last : (p : Pattern) (x last : ℕ) → (x % 2 ≡ 1 → last ≡ one (matches p (2 * (x / 2)))) → (x % 2 ≡ 0 → last ≡ 0) → count p x ≡ count p (2 * (x / 2)) + last
add_last p x last odd even = elim (cases_eq (x % 2) 0) [
  | inl none ↦ (let is : x ≡ 2 * (x / 2) = omega arith in ap (count p) is ∙ omega (arith, even none))
  | inr some ↦ (
      let is : x ≡ 2 * (x / 2) + 1 = omega arith in
      ap (count p) is ∙ omega (arith, total_next (λ y. one (matches p y)) (2 * (x / 2)), odd (omega arith))
      )
]

pub count_free : (p h : Pattern) (x last : ℕ) → IsHalf p h → p.mask % 2 ≡ 0 → (x % 2 ≡ 1 → last ≡ one (matches h (x / 2))) → (x % 2 ≡ 0 → last ≡ 0) →
    count p x ≡ count h (x / 2) + count h (x / 2) + last
count_free p h x last half free odd even =
    let at : (k : ℕ) → matches p (2 * k) ≡ matches h k = λ k. half_free p h half free (2 * k) ∙ ap (matches h) (omega arith) in
    let after : (k : ℕ) → matches p (2 * k + 1) ≡ matches h k = λ k. half_free p h half free (2 * k + 1) ∙ ap (matches h) (omega arith) in
    let pairs : count p (2 * (x / 2)) ≡ count h (x / 2) + count h (x / 2) =
    total_pairs (λ y. one (matches p y)) (x / 2)
    ∙ total_same _ (λ k. one (matches h k) + one (matches h k)) (x / 2) (λ k lt i. one (at k i) + one (after k i))
    ∙ total_add (λ k. one (matches h k)) (λ k. one (matches h k)) (x / 2) in
    add_last p x last (λ o. odd o ∙ ap one (sym (at (x / 2)))) even ∙ ap (λ (n : ℕ). n + last) pairs

pairs_fixed : (p h : Pattern) → IsHalf p h → p.mask % 2 ≡ 1 → (n : ℕ) → count p (2 * n) ≡ count h n
pairs_fixed p h half fixed n =
    total_pairs (λ y. one (matches p y)) n ∙ total_same _ (λ k. one (matches h k)) n (λ k lt. go k) where
      go : (k : ℕ) → one (matches p (2 * k)) + one (matches p (2 * k + 1)) ≡ one (matches h k)
      go k = elim (cases_eq (p.bits % 2) 0) [
        | inl even ↦ (
            let at : matches p (2 * k) ≡ matches h k = half_fixed p h half fixed (2 * k) (omega arith) ∙ ap (matches h) (omega arith) in
            let after : matches p (2 * k + 1) ≡ false = half_other p fixed (2 * k + 1) (λ e. omega arith) in
            rw (at, after) (omega arith)
            )
        | inr odd ↦ (
            let at : matches p (2 * k) ≡ false = half_other p fixed (2 * k) (λ e. omega arith) in
            let after : matches p (2 * k + 1) ≡ matches h k = half_fixed p h half fixed (2 * k + 1) (omega arith) ∙ ap (matches h) (omega arith) in
            rw (at, after) (omega arith)
            )
      ]

pub count_even : (p h : Pattern) (x last : ℕ) → IsHalf p h → p.mask % 2 ≡ 1 → p.bits % 2 ≡ 0 → (x % 2 ≡ 1 → last ≡ one (matches h (x / 2))) → (x % 2 ≡ 0 → last ≡ 0) →
    count p x ≡ count h (x / 2) + last
count_even p h x last half fixed low odd even =
    let at : matches p (2 * (x / 2)) ≡ matches h (x / 2) = half_fixed p h half fixed (2 * (x / 2)) (omega arith) ∙ ap (matches h) (omega arith) in
    add_last p x last (λ o. odd o ∙ ap one (sym at)) even ∙ ap (λ (n : ℕ). n + last) (pairs_fixed p h half fixed (x / 2))

pub count_odd : (p h : Pattern) (x : ℕ) → IsHalf p h → p.mask % 2 ≡ 1 → p.bits % 2 ≡ 1 → count p x ≡ count h (x / 2)
count_odd p h x half fixed low =
    let none : matches p (2 * (x / 2)) ≡ false = half_other p fixed (2 * (x / 2)) (λ e. omega arith) in
    add_last p x 0 (λ o. sym (ap one none)) (λ e. refl) ∙ omega (arith, pairs_fixed p h half fixed (x / 2))

-- ---- bit 0 cleared

pub even_and : (x m : ℕ) → bit_and x (m - m % 2) ≡ bit_and (x - x % 2) m
even_and x m =
    let of_mask : (m - m % 2) / 2 ≡ m / 2 = omega arith in
    let of_number : (x - x % 2) / 2 ≡ x / 2 = omega arith in
    omega (
      arith,
      and_step x (m - m % 2),
      and_step (x - x % 2) m,
      ap (bit_and (x / 2)) of_mask,
      ap (λ (n : ℕ). bit_and n (m / 2)) of_number,
    )

pub even_within : (b m : ℕ) → bit_and b m ≡ b → (b % 2 ≡ 1 → ⊥) → bit_and b (m - m % 2) ≡ b
even_within b m within other =
    let even : b - b % 2 ≡ b = omega (arith, other) in
    even_and b m ∙ ap (λ (n : ℕ). bit_and n m) even ∙ within

-- a pattern that has bit 0 set matches no even number
pub odd_none : (p : Pattern) (x : ℕ) → p.bits % 2 ≡ 1 → false ≡ matches p (x - x % 2)
odd_none p x odd = sym (half_other p (omega (arith, lowest p, odd)) (x - x % 2) (λ e. omega (arith, e, odd)))
