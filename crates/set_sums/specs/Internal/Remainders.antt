-- What sums leave when they are divided by a power of two.
use Rattle.std.specs.Prelude.{◌≡◌, ℕ, ◌+◌, ◌*◌, ◌%◌, ◌^◌, ◌<◌, List, IsTrue}
use Rattle.dom_set.specs.Elements.{is_in, is_matching}

-- the second list has the low bits, so many, of the elements of the first
abbrev pub HasRemainders : List ℕ → ℕ → List ℕ → Type 0
HasRemainders set count found = (v : ℕ) → IsTrue (is_in set v) → IsTrue (is_in found (v % 2 ^ count))

-- the list has what elements of the set leave when they are divided by 4, if that is below an end
abbrev pub HasRemaindersBelow : List ℕ → ℕ → List ℕ → Type 0
HasRemaindersBelow set end found = (v : ℕ) → IsTrue (is_in set v) → v % 4 < end → IsTrue (is_in found (v % 4))

-- what has the low bits of one number and so many times one of the others matches
abbrev pub AreClassesOf : List (ℕ × ℕ) → ℕ → List ℕ → ℕ → ℕ → Type 0
AreClassesOf classes first others times count = (n w : ℕ) → IsTrue (is_in others w) → n % 2 ^ count ≡ (first + times * w) % 2 ^ count → IsTrue (is_matching classes n)

-- what has the low bits of one of the numbers and so many times one of the others matches
abbrev pub AreClasses : List (ℕ × ℕ) → List ℕ → List ℕ → ℕ → ℕ → Type 0
AreClasses classes firsts others times count = (n v w : ℕ) → IsTrue (is_in firsts v) → IsTrue (is_in others w) → n % 2 ^ count ≡ (v + times * w) % 2 ^ count → IsTrue (is_matching classes n)

-- what matches the first patterns matches the second
abbrev pub AreSameClasses : List (ℕ × ℕ) → List (ℕ × ℕ) → Type 0
AreSameClasses first second = (n : ℕ) → IsTrue (is_matching first n) → IsTrue (is_matching second n)

-- the words that have the low bits of one of the numbers and so many times one of the others
abbrev pub HasClasses : List ℕ → List ℕ → ℕ → ℕ → List ℕ → Type 0
HasClasses firsts others times count set = (n v w : ℕ) → n < 2 ^ 32 → IsTrue (is_in firsts v) → IsTrue (is_in others w) → n % 2 ^ count ≡ (v + times * w) % 2 ^ count → IsTrue (is_in set n)

-- an element of the first set and so many times one of the second, modulo 2 ^ 32
abbrev pub HasClassSums : List ℕ → List ℕ → ℕ → List ℕ → Type 0
HasClassSums first second times set = (v w : ℕ) → IsTrue (is_in first v) → IsTrue (is_in second w) → IsTrue (is_in set ((v + times * w) % 2 ^ 32))
