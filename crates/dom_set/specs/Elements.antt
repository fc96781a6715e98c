-- Finite sets of 32-bit numbers, as the ascending lists of their elements.
use Rattle.std.specs.Prelude.{ℕ, zero, suc, ◌^◌, ◌==◌, ◌&&◌, bit_and, nat_le, int_lt, Bool, List, [], ◌∷◌, ◌++◌, Option, filter, slice_get}
use Rattle.std.specs.List.{list_any, find}
use Rattle.std.specs.Option.{option_or}
use Rattle.std.specs.Int.{w32, cast_signed}

-- the numbers below n, ascending
unfoldable pub numbers_below : ℕ → List ℕ
numbers_below zero = []
numbers_below (suc n) = numbers_below n ++ n ∷ []

-- the 32-bit numbers that pass the test, ascending
unfoldable pub elements_of : (ℕ → Bool) → List ℕ
elements_of test = filter test (numbers_below (2 ^ 32))

-- whether the number is in the list
abbrev pub is_in : List ℕ → ℕ → Bool
is_in xs x = list_any (λ y. y == x) xs

-- whether the number is in one of the ranges, each from a lowest number to a highest
abbrev pub is_within : List (ℕ × ℕ) → ℕ → Bool
is_within ranges x = list_any (λ r. nat_le r.0 x && nat_le x r.1) ranges

-- whether the number matches one of the patterns, each a mask and the bits that the number has under it
abbrev pub is_matching : List (ℕ × ℕ) → ℕ → Bool
is_matching patterns x = list_any (λ p. bit_and x p.0 == p.1) patterns

-- the first from the pivot upwards, or the first of all where there is none
abbrev pub first_cyclic : List ℕ → ℕ → Option ℕ
first_cyclic xs pivot = option_or (find (λ x. nat_le pivot x) xs) (slice_get xs 0)

-- whether x is less than y, both read as signed 32-bit numbers
abbrev pub is_signed_lt : ℕ → ℕ → Bool
is_signed_lt x y = int_lt (cast_signed w32 x) (cast_signed w32 y)
