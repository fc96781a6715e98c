-- Powers of two up to one.
use Rattle.std.proofs.Common.{◌≡◌, ℕ, ◌/◌, ◌^◌, ◌<◌, ◌≤◌, inl, inr, ap, arith}
use Rattle.std.proofs.lemmas.Bool.{cases_lt}
use Rattle.std.proofs.lemmas.Nat.{pow_below}

pub power_up : (i j : ℕ) → i ≤ j → 2 ^ i ≤ 2 ^ j
power_up i j le = elim (cases_lt i j) [
  | inl below ↦ omega (arith, pow_below i j below)
  | inr from ↦ (let same : i ≡ j = omega (arith, le, from) in omega (arith, ap (λ (m : ℕ). 2 ^ m) same))
]

-- a power of two whose half is below 2 ^ 32 is at most that
pub power_within : (k n : ℕ) → n ≡ 2 ^ k → n / 2 < 2 ^ 32 → n ≤ 2 ^ 32
power_within k n is half = elim (cases_lt 32 k) [
  | inl above ↦ absurd (omega (arith, is, half, power_up 33 k (omega (arith, above))))
  | inr within ↦ omega (arith, is, power_up k 32 within)
]
