-- Sets of words that hold what is asked for, and perhaps more.
use Rattle.std.specs.Prelude.{ℕ, Bool, ◌+◌, ◌-◌, ◌%◌, ◌^◌, ◌<◌, ◌≤◌, List, IsTrue}
use Rattle.dom_set.specs.Elements.{is_in, is_within}

-- every element is between a lowest and a highest number
abbrev pub IsBetween : List ℕ → ℕ × ℕ → Type 0
IsBetween set ends = (v : ℕ) → IsTrue (is_in set v) → (ends.0 ≤ v) × (v ≤ ends.1)

-- every element is in one of the ranges
abbrev pub AreCovered : List ℕ → List (ℕ × ℕ) → Type 0
AreCovered set ranges = (v : ℕ) → IsTrue (is_in set v) → IsTrue (is_within ranges v)

-- the set has just the words of the ranges
pub record IsOfRanges (ranges : List (ℕ × ℕ)) (set : List ℕ) : Type 0 where
  pub within : (v : ℕ) → IsTrue (is_in set v) → IsTrue (is_within ranges v)
  pub all : (v : ℕ) → v < 2 ^ 32 → IsTrue (is_within ranges v) → IsTrue (is_in set v)

-- the ranges have the numbers from the lowest to the highest, modulo 2 ^ 32
abbrev pub HaveRound : List (ℕ × ℕ) → ℕ → ℕ → Type 0
HaveRound ranges low high = (n : ℕ) → low ≤ n → n ≤ high → IsTrue (is_within ranges (n % 2 ^ 32))

-- what is in the first ranges is in the second
abbrev pub AreKept : List (ℕ × ℕ) → List (ℕ × ℕ) → Type 0
AreKept first second = (v : ℕ) → IsTrue (is_within first v) → IsTrue (is_within second v)

-- the sums of elements of two sets, modulo 2 ^ 32
abbrev pub HasSums : List ℕ → List ℕ → List ℕ → Type 0
HasSums first second set = (v w : ℕ) → IsTrue (is_in first v) → IsTrue (is_in second w) → IsTrue (is_in set ((v + w) % 2 ^ 32))

-- the words that give an element of the first set when one of the second is added, modulo 2 ^ 32
abbrev pub HasDifferences : List ℕ → List ℕ → List ℕ → Type 0
HasDifferences first second set = (v w : ℕ) → v < 2 ^ 32 → IsTrue (is_in second w) → IsTrue (is_in first ((v + w) % 2 ^ 32)) → IsTrue (is_in set v)

-- the sums of elements of two sets that are in the domain
abbrev pub HasSumsWithin : List ℕ → List ℕ → List ℕ → List ℕ → Type 0
HasSumsWithin first second domain set = (v w : ℕ) → IsTrue (is_in first v) → IsTrue (is_in second w) → IsTrue (is_in domain ((v + w) % 2 ^ 32)) → IsTrue (is_in set ((v + w) % 2 ^ 32))

-- the words of the domain that give an element of the first set when one of the second is added
abbrev pub HasDifferencesWithin : List ℕ → List ℕ → List ℕ → List ℕ → Type 0
HasDifferencesWithin first second domain set = (v w : ℕ) → IsTrue (is_in domain v) → IsTrue (is_in second w) → IsTrue (is_in first ((v + w) % 2 ^ 32)) → IsTrue (is_in set v)

-- where a number from the lowest to the highest, modulo 2 ^ 32, is in one of the windows, the answer says so
abbrev pub IsMet : List (ℕ × ℕ) → ℕ → ℕ → Bool → Type 0
IsMet windows low high met = (n : ℕ) → low ≤ n → n ≤ high → IsTrue (is_within windows (n % 2 ^ 32)) → IsTrue met

-- the range is around all ranges
abbrev pub IsAround : List (ℕ × ℕ) → ℕ × ℕ → Type 0
IsAround ranges span = (v : ℕ) → IsTrue (is_within ranges v) → (span.0 ≤ v) × (v ≤ span.1)

-- where a sum of a number of the first ranges and one of the others is in a window, the answer says so
abbrev pub MayMeet : List (ℕ × ℕ) → List (ℕ × ℕ) → List (ℕ × ℕ) → Bool → Type 0
MayMeet firsts others windows met = (v w : ℕ) → IsTrue (is_within firsts v) → IsTrue (is_within others w) → IsTrue (is_within windows ((v + w) % 2 ^ 32)) → IsTrue met

-- a number of the first range plus one of the other, where that is in a window
abbrev pub HaveSumsOf : List (ℕ × ℕ) → ℕ × ℕ → ℕ × ℕ → List (ℕ × ℕ) → Type 0
HaveSumsOf ranges first other windows = (v w : ℕ) → first.0 ≤ v → v ≤ first.1 → other.0 ≤ w → w ≤ other.1 → IsTrue (is_within windows ((v + w) % 2 ^ 32)) → IsTrue (is_within ranges ((v + w) % 2 ^ 32))

-- a number of the first range plus one of the others, where that is in a window
abbrev pub HaveSumsWith : List (ℕ × ℕ) → ℕ × ℕ → List (ℕ × ℕ) → List (ℕ × ℕ) → Type 0
HaveSumsWith ranges first others windows = (v w : ℕ) → first.0 ≤ v → v ≤ first.1 → IsTrue (is_within others w) → IsTrue (is_within windows ((v + w) % 2 ^ 32)) → IsTrue (is_within ranges ((v + w) % 2 ^ 32))

-- a number of the first ranges plus one of the others, where that is in a window
abbrev pub HaveSums : List (ℕ × ℕ) → List (ℕ × ℕ) → List (ℕ × ℕ) → List (ℕ × ℕ) → Type 0
HaveSums ranges firsts others windows = (v w : ℕ) → IsTrue (is_within firsts v) → IsTrue (is_within others w) → IsTrue (is_within windows ((v + w) % 2 ^ 32)) → IsTrue (is_within ranges ((v + w) % 2 ^ 32))

-- what leads to 0 when a word of the ranges is added
abbrev pub AreNegated : List (ℕ × ℕ) → List (ℕ × ℕ) → Type 0
AreNegated negated ranges = (w : ℕ) → w ≤ 2 ^ 32 → IsTrue (is_within ranges w) → IsTrue (is_within negated ((2 ^ 32 - w) % 2 ^ 32))

-- what leads to 0 when an element of the set is added
abbrev pub AreNegatives : List ℕ → List (ℕ × ℕ) → Type 0
AreNegatives set negated = (w : ℕ) → IsTrue (is_in set w) → IsTrue (is_within negated ((2 ^ 32 - w) % 2 ^ 32))

-- the words that give an element when they are doubled, modulo 2 ^ 32
abbrev pub HasHalves : List ℕ → List ℕ → Type 0
HasHalves set halved = (v : ℕ) → v < 2 ^ 32 → IsTrue (is_in set ((v + v) % 2 ^ 32)) → IsTrue (is_in halved v)

-- the words that give a number of the range when they are doubled
abbrev pub HaveHalvesOf : List (ℕ × ℕ) → ℕ × ℕ → Type 0
HaveHalvesOf halved range = (v : ℕ) → v < 2 ^ 32 → range.0 ≤ (v + v) % 2 ^ 32 → (v + v) % 2 ^ 32 ≤ range.1 → IsTrue (is_within halved v)

-- the words that give a number of the ranges when they are doubled
abbrev pub HaveHalves : List (ℕ × ℕ) → List (ℕ × ℕ) → Type 0
HaveHalves halved ranges = (v : ℕ) → v < 2 ^ 32 → IsTrue (is_within ranges ((v + v) % 2 ^ 32)) → IsTrue (is_within halved v)
