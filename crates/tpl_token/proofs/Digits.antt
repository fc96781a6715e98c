-- The value of digits that are read from left to right.
use Rattle.std.proofs.Common.{◌≡◌, ℕ, ◌+◌, ◌*◌, ◌^◌, ◌≤◌, List, [], ◌∷◌, None, refl, arith}
use Rattle.std.proofs.lemmas.Bool.{le-ltb}
use Rattle.std.proofs.Math.Nat.{mul-le-mul_left}
use Rattle.tpl_lang.specs.Numbers.{digit_of, value_of, fitting}

grows : (base n : ℕ) (ds : List ℕ) → 1 ≤ base → n ≤ value_of base n ds
grows base n [] low = omega arith
grows base n (d ∷ ds) low = omega (arith, mul-le-mul_left n low, grows base (n * base + digit_of d) ds low)

-- once a value is too large it stays so
pub too_large : (base n total : ℕ) (ds : List ℕ) → 1 ≤ base → 2 ^ 32 ≤ n → value_of base n ds ≡ total → None ≡ fitting total
too_large base n total ds low large is = let big : 2 ^ 32 ≤ total = omega (arith, grows base n ds low, is) in rw (le-ltb _ _ big) refl

-- a product that is too large
pub too_large_before : (base n total d : ℕ) (ds : List ℕ) → 1 ≤ base → 2 ^ 32 ≤ n * base → value_of base (n * base + digit_of d) ds ≡ total → None ≡ fitting total
too_large_before base n total d ds low large is = too_large base (n * base + digit_of d) total ds low (omega (arith, large)) is
