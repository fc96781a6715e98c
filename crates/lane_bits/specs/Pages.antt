-- Sets of numbers below 4,096, as the ascending lists of their elements.
use Rattle.std.specs.Prelude.{ℕ, zero, suc, ◌/◌, ◌%◌, Bool, nat_eq, List, ◌∷◌, [], ◌++◌, filter, slice_index}
use Rattle.std.specs.List.{list_any}
use Rattle.std.specs.Int.{bit_at}

-- the numbers below n, ascending
unfoldable pub numbers_below : ℕ → List ℕ
numbers_below zero = []
numbers_below (suc n) = numbers_below n ++ n ∷ []

-- the numbers below 4,096 that pass the test, ascending
unfoldable pub elements_of : (ℕ → Bool) → List ℕ
elements_of test = filter test (numbers_below 4096)

-- whether the number is in the set
unfoldable pub has : List ℕ → ℕ → Bool
has page x = list_any (λ y. nat_eq y x) page

-- whether bit x of words of 64 bits is set
unfoldable pub bit : List ℕ → ℕ → Bool
bit words x = nat_eq (bit_at (slice_index words (x / 64)) (x % 64)) 1
