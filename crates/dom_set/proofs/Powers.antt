-- Powers of two.
use Rattle.std.proofs.Common.{◌≡◌, ℕ, zero, suc, ◌+◌, ◌/◌, ◌%◌, ◌^◌, ◌<◌, inl, inr, sym, ap, ◌∙◌, arith}
use Rattle.std.specs.Prelude.{count_ones, IsTrue}
use Rattle.std.specs.Int.{w32, trailing_zeros, bit_at, is_power_of_two, IsPowerOfTwo}
use Rattle.std.proofs.lemmas.Bool.{cases_eq, cases_lt, eqb-true}
use Rattle.std.proofs.lemmas.Nat.{pow_pos, pow_below, ones-le, zero_from_ones}
use Rattle.std.proofs.lemmas.Nat.Bits.{bit_at-trailing_zeros, bit_at-pow_other}
use lib.Count.{ones_step}
use Rattle.set_pieces.proofs.Low.{pow_twice}

-- a number with one bit set is a power of two
pub power_from_ones : (w n : ℕ) → n < 2 ^ w → count_ones n ≡ 1 → (k : ℕ) × (k < w) × (n ≡ 2 ^ k)
power_from_ones zero n lt h = absurd (omega (arith, ones-le 0 n lt))
power_from_ones (suc w) n lt h = go (λ below one. power_from_ones w (n / 2) below one) where
  twice : (w : ℕ) → 2 ^ suc w ≡ 2 ^ w + 2 ^ w
  twice w = let e : suc w ≡ w + 1 = omega arith in rw e (pow_twice w)

  go : (n / 2 < 2 ^ w → count_ones (n / 2) ≡ 1 → (k : ℕ) × (k < w) × (n / 2 ≡ 2 ^ k)) → (k : ℕ) × (k < suc w) × (n ≡ 2 ^ k)
  go half = elim (cases_eq (n % 2) 0) [
    | inl even ↦ (
        let k = half (omega (arith, twice w)) (omega (arith, ones_step n)) in
        (suc k.0, omega (arith, k.1), omega (arith, k.2, twice k.0))
        )
    | inr odd ↦ (
        let none : n / 2 ≡ 0 = zero_from_ones (n / 2) (omega (arith, ones_step n)) in
        (0, omega arith, omega arith)
        )
  ]

pub trailing_zeros-power : (n k : ℕ) → k < 32 → n ≡ 2 ^ k → n < 2 ^ 32 → trailing_zeros w32 n ≡ k
trailing_zeros-power n k lk is lt =
    let lowest = bit_at-trailing_zeros w32 n (omega (arith, pow_pos k)) lt in
    elim (cases_eq (trailing_zeros w32 n) k) [
      | inl same ↦ same
      | inr other ↦ (
          let set : bit_at (2 ^ k) (trailing_zeros w32 n) ≡ 1 = ap (λ m. bit_at m (trailing_zeros w32 n)) (sym is) ∙ lowest.1 in
          let clear : bit_at (2 ^ k) (trailing_zeros w32 n) ≡ 0 = bit_at-pow_other k (trailing_zeros w32 n) other in
          absurd (omega (arith, set, clear))
          )
    ]

pub exponent_below : (n k : ℕ) → n ≡ 2 ^ k → n < 2 ^ 32 → k < 32
exponent_below n k is lt = elim (cases_lt k 32) [
  | inl below ↦ below
  | inr from ↦ elim (cases_eq k 32) [
    | inl same ↦ absurd (omega (arith, is ∙ ap (λ (m : ℕ). 2 ^ m) same))
    | inr other ↦ absurd (omega (arith, is, pow_below 32 k (omega arith)))
  ]
]

pub power_from_test : (n : ℕ) → n < 2 ^ 32 → IsTrue (is_power_of_two n) → IsPowerOfTwo n
power_from_test n lt h = let k = power_from_ones 32 n lt (eqb-true (count_ones n) 1 h) in (k.0, k.2)
