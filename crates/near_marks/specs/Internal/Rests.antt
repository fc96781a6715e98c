-- What numbers leave when they are divided by 64.
use Rattle.std.specs.Prelude.{◌≡◌, ℕ, Bool, false, ◌+◌, ◌%◌, ◌^◌, ◌<◌, ◌≤◌, List, IsTrue}
use Rattle.lane_bits.specs.Pages.{has}
use Rattle.near_marks.specs.declared.steps.Steps.{Steps}
use Rattle.near_marks.specs.Internal.Near.{is_at, is_at_one, is_marked}

-- what was noted is
abbrev pub AreRestsKept : List ℕ → List ℕ → Type 0
AreRestsKept old new = (r : ℕ) → IsTrue (has old r) → IsTrue (has new r)

-- what the steps leave is noted
abbrev pub HaveRestsOf : List ℕ → Steps → Type 0
HaveRestsOf rests steps = (x : ℕ) → IsTrue (is_at steps x) → IsTrue (has rests (x % 64))

-- what one of the steps leaves is noted
abbrev pub HaveRests : List ℕ → List Steps → Type 0
HaveRests rests all = (x : ℕ) → IsTrue (is_at_one all x) → IsTrue (has rests (x % 64))

-- what the sums with one of the others below an end leave is noted
abbrev pub HaveSumsWith : List ℕ → ℕ → List ℕ → ℕ → Type 0
HaveSumsWith sums rest others end = (y : ℕ) → y < end → IsTrue (has others y) → IsTrue (has sums ((rest + y) % 64))

-- what the sums of one of the first ones below an end and one of the others leave is noted
abbrev pub HaveSumsOf : List ℕ → List ℕ → ℕ → List ℕ → Type 0
HaveSumsOf sums firsts end others = (x y : ℕ) → x < end → y < 64 → IsTrue (has firsts x) → IsTrue (has others y) → IsTrue (has sums ((x + y) % 64))

-- where a number from the lowest to the highest one, from the base on, leaves a noted rest below an end and is not marked, the answer says so
abbrev pub HasGapLeavingFrom : List ℕ → List ℕ → ℕ → ℕ → ℕ → ℕ → Bool → Type 0
HasGapLeavingFrom marks rests end low high base answer = (n x : ℕ) → low ≤ n → n ≤ high → n ≡ base + x → x < 4096 → x % 64 < end → IsTrue (has rests (x % 64)) → answer ≡ false → IsTrue (is_marked marks x)

-- the same of those numbers modulo 2 ^ 32
abbrev pub HasGapLeaving : List ℕ → List ℕ → ℕ → ℕ → Bool → Type 0
HasGapLeaving marks rests low high answer = (n : ℕ) → low ≤ n → n ≤ high → n % 2 ^ 32 < 4096 → IsTrue (has rests (n % 64)) → answer ≡ false → IsTrue (is_marked marks (n % 2 ^ 32))
