-- What holds of the lists that stand for sets.
use Rattle.std.specs.Prelude.{◌≡◌, ℕ, ◌<◌, ◌&&◌, Bool, nat_lt}
use Rattle.std.specs.List.Sorted.{IsStrictlyIncreasing}
use Rattle.lane_bits.specs.Pages.{elements_of, has}

-- the elements are the numbers below 4,096 that pass the test
abbrev pub ElementsPass : Type 0
ElementsPass = (test : ℕ → Bool) (x : ℕ) → has (elements_of test) x ≡ (nat_lt x 4096 && test x)

-- they ascend
abbrev pub ElementsAscend : Type 0
ElementsAscend = (test : ℕ → Bool) → IsStrictlyIncreasing (elements_of test)

-- tests that agree below 4,096 have the same elements
abbrev pub SameTestsSameElements : Type 0
SameTestsSameElements = (test other : ℕ → Bool) → ((x : ℕ) → x < 4096 → test x ≡ other x) → elements_of test ≡ elements_of other
