-- The laws of the lists that stand for sets, and of the test of what they are aligned to.
use Rattle.std.specs.Prelude.{◌≡◌, ℕ, ◌<◌, ◌^◌, ◌↔◌, Bool, true, List, All, Contains, IsTrue}
use Rattle.std.specs.List.Sorted.{IsStrictlyIncreasing}
use Rattle.std.specs.Int.{is_power_of_two, IsPowerOfTwo}
use Rattle.dom_set.specs.Elements.{elements_of, is_in}

-- the elements are the 32-bit numbers that pass the test
abbrev pub ElementsPass : Type 0
ElementsPass = (test : ℕ → Bool) (x : ℕ) → Contains (elements_of test) x ↔ ((x < 2 ^ 32) × (test x ≡ true))

-- they ascend
abbrev pub ElementsAscend : Type 0
ElementsAscend = (test : ℕ → Bool) → IsStrictlyIncreasing (elements_of test)

-- tests that agree on the 32-bit numbers have the same elements
abbrev pub SameTestsSameElements : Type 0
SameTestsSameElements = (test other : ℕ → Bool) → ((x : ℕ) → x < 2 ^ 32 → test x ≡ other x) → elements_of test ≡ elements_of other

-- the test for being in a list says just that
abbrev pub IsInTests : Type 0
IsInTests = (xs : List ℕ) (x : ℕ) → IsTrue (is_in xs x) ↔ Contains xs x

-- an ascending list of 32-bit numbers is that of the numbers which are in it
abbrev pub AscendingAreElements : Type 0
AscendingAreElements = (xs : List ℕ) → IsStrictlyIncreasing xs → All (λ x. x < 2 ^ 32) xs → xs ≡ elements_of (is_in xs)

-- std's test of a power of two
abbrev pub PowersAreTested : Type 0
PowersAreTested = (n : ℕ) → n < 2 ^ 32 → IsTrue (is_power_of_two n) → IsPowerOfTwo n
