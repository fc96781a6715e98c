-- Numbers that match where these are a power of two apart: how many there are, and the first one.
use Rattle.std.proofs.Common.{◌≡◌, ℕ, zero, suc, ◌+◌, ◌-◌, ◌*◌, ◌/◌, ◌%◌, ◌^◌, ◌<◌, ◌≤◌, inl, inr, true, false, eqb, bit_and, sym, ap, ◌∙◌, arith}
use Rattle.std.proofs.lemmas.Bool.{cases_eq, cases_lt, eq-eqb, ne_eqb}
use Rattle.std.proofs.lemmas.Nat.{pow_pos, and_mask, mod_below, div-mul-add, mod-mul-add}
use Rattle.set_pieces.specs.declared.pattern.Pattern.{Pattern}
use Rattle.set_pieces.specs.Counting.{one, total}
use Rattle.set_pieces.specs.Internal.Patterns.{matches, IsStep}
use Rattle.set_pieces.proofs.Halving.{IsFirst}
use Rattle.set_pieces.proofs.Low.{gap}
use Rattle.set_pieces.proofs.Totals.{total_none, total_next}

-- the numbers that match are those with one remainder
pub record IsEach (p : Pattern) (s : ℕ) : Type 0 where
  pub positive : 0 < s
  pub mask : p.mask + 1 ≡ s
  pub bits : p.bits < s
  pub cut : (x : ℕ) → bit_and x p.mask ≡ x % s

pub each : (p : Pattern) → (step : IsStep p) → IsEach p (2 ^ step.0)
each p step =
    let k = step.0 in
    let cut : (x : ℕ) → bit_and x p.mask ≡ x % 2 ^ k = λ x. ap (bit_and x) step.1 ∙ and_mask x k in
    record {
      positive = pow_pos k;
      mask = omega (arith, step.1, pow_pos k);
      bits = omega (arith, p.within, cut p.bits, mod_below p.bits (2 ^ k) (pow_pos k));
      cut = cut;
    }

test : (p : Pattern) (s x : ℕ) → IsEach p s → matches p x ≡ eqb (x % s) p.bits
unfolding matches
test p s x e = ap (λ (n : ℕ). eqb n p.bits) (e.cut x)

matched : (p : Pattern) (s x : ℕ) → IsEach p s → x % s ≡ p.bits → matches p x ≡ true
matched p s x e is = test p s x e ∙ eq-eqb _ _ is

unmatched : (p : Pattern) (s x : ℕ) → IsEach p s → (x % s ≡ p.bits → ⊥) → matches p x ≡ false
unmatched p s x e other = test p s x e ∙ ne_eqb _ _ other

-- ---- how many

-- the quotient of a number and what lacks to the next one that matches
quotient : (s q r b : ℕ) → r < s → b < s → r ≤ b → (q * s + r + (s - 1 - b)) / s ≡ q
quotient s q r b low bits le =
    let is : q * s + r + (s - 1 - b) ≡ q * s + (r + (s - 1 - b)) = omega arith in
    ap (λ (n : ℕ). n / s) is ∙ div-mul-add q s (r + (s - 1 - b)) (omega arith)

quotient_past : (s q r b : ℕ) → r ≤ s → b < s → b < r → (q * s + r + (s - 1 - b)) / s ≡ q + 1
quotient_past s q r b low bits gt =
    let is : q * s + r + (s - 1 - b) ≡ (q + 1) * s + (r - 1 - b) = omega arith in
    ap (λ (n : ℕ). n / s) is ∙ div-mul-add (q + 1) s (r - 1 - b) (omega arith)

next_count : (p : Pattern) (s x q r : ℕ) → IsEach p s → x ≡ q * s + r → r < s → (x + 1 + (s - 1 - p.bits)) / s ≡ (x + (s - 1 - p.bits)) / s + one (matches p x)
next_count p s x q r e is low =
    let rest : x % s ≡ r = ap (λ (n : ℕ). n % s) is ∙ mod-mul-add q s r low in
    let up : x + 1 ≡ q * s + (r + 1) = omega (arith, is) in
    let now : (d : ℕ) → (x + d) / s ≡ (q * s + r + d) / s = λ d. ap (λ (n : ℕ). (n + d) / s) is in
    let then : (d : ℕ) → (x + 1 + d) / s ≡ (q * s + (r + 1) + d) / s = λ d. ap (λ (n : ℕ). (n + d) / s) up in
    let d = s - 1 - p.bits in
    elim (cases_lt r p.bits) [
      | inl below ↦ (
          let none : one (matches p x) ≡ 0 = ap one (unmatched p s x e (λ h. omega (arith, h, rest))) in
          omega (arith, now d, then d, none, quotient s q r p.bits low e.bits (omega arith), quotient s q (r + 1) p.bits (omega (arith, e.bits)) e.bits (omega arith))
          )
      | inr from ↦ elim (cases_eq r p.bits) [
        | inl here ↦ (
            let some : one (matches p x) ≡ 1 = ap one (matched p s x e (rest ∙ here)) in
            omega (arith, now d, then d, some, quotient s q r p.bits low e.bits (omega arith), quotient_past s q (r + 1) p.bits (omega arith) e.bits (omega arith))
            )
        | inr other ↦ (
            let none : one (matches p x) ≡ 0 = ap one (unmatched p s x e (λ h. other (sym rest ∙ h))) in
            omega (arith, now d, then d, none, quotient_past s q r p.bits (omega arith) e.bits (omega (arith, other)), quotient_past s q (r + 1) p.bits (omega arith) e.bits (omega arith))
            )
      ]
    ]

pub count_each : (p : Pattern) (s : ℕ) → IsEach p s → (x : ℕ) → (x + (s - 1 - p.bits)) / s ≡ total (λ y. one (matches p y)) x
count_each p s e zero =
    let none : (0 * s + 0 + (s - 1 - p.bits)) / s ≡ 0 = quotient s 0 0 p.bits e.positive e.bits (omega arith) in
    let is : 0 + (s - 1 - p.bits) ≡ 0 * s + 0 + (s - 1 - p.bits) = omega arith in
    ap (λ (n : ℕ). n / s) is ∙ none ∙ sym (total_none (λ y. one (matches p y)))
count_each p s e (suc x) =
    let is : suc x ≡ x + 1 = omega arith in
    let parts : x ≡ x / s * s + x % s = omega arith in
    rw is (omega (arith, total_next (λ y. one (matches p y)) x, count_each p s e x, next_count p s x (x / s) (x % s) e parts (mod_below x s e.positive)))

-- ---- the first

-- a number less than a step on that has the remainder is the first
pub first_each : (p : Pattern) (s from n : ℕ) → IsEach p s → n % s ≡ p.bits → from ≤ n → n < from + s → IsFirst p from n
first_each p s from n e is reached near = record {
  matching = matched p s n e is;
  reached = reached;
  first = λ x low high. unmatched p s x e (λ h. omega (arith, low, near, gap s x n e.positive (h ∙ sym is) high));
}

pub same_turn : (p : Pattern) (s from low : ℕ) → IsEach p s → low ≡ from % s → low ≤ p.bits → IsFirst p from (from - low + p.bits)
same_turn p s from low e is le =
    let at : from - low + p.bits ≡ from / s * s + p.bits = omega (arith, is) in
    first_each p s from (from - low + p.bits) e (ap (λ (n : ℕ). n % s) at ∙ mod-mul-add (from / s) s p.bits e.bits) (omega (arith, is)) (omega (arith, is, e.bits, mod_below from s e.positive))

pub next_turn : (p : Pattern) (s from low : ℕ) → IsEach p s → low ≡ from % s → p.bits < low → IsFirst p from (from - low + p.bits + p.mask + 1)
next_turn p s from low e is gt =
    let at : from - low + p.bits + p.mask + 1 ≡ (from / s + 1) * s + p.bits = omega (arith, is, e.mask) in
    first_each p s from (from - low + p.bits + p.mask + 1) e (ap (λ (n : ℕ). n % s) at ∙ mod-mul-add (from / s + 1) s p.bits e.bits)
    (omega (arith, is, e.mask, mod_below from s e.positive)) (omega (arith, is, gt, e.mask))
