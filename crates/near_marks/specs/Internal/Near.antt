-- Numbers that are a power of two apart, and their sums that are near a multiple of 2 ^ 32.
use Rattle.std.specs.Prelude.{◌≡◌, ℕ, Bool, false, not, ◌+◌, ◌%◌, ◌^◌, ◌<◌, ◌≤◌, ◌==◌, ◌&&◌, nat_le, List, IsTrue}
use Rattle.std.specs.List.{list_any}
use Rattle.lane_bits.specs.Pages.{has}
use Rattle.near_marks.specs.declared.steps.Steps.{Steps}

-- whether the number is between the ends of the steps and a multiple of 2 ^ shift from their lowest number
abbrev pub is_at : Steps → ℕ → Bool
is_at s n = (nat_le s.low n && nat_le n s.high) && (n % 2 ^ s.shift == s.low % 2 ^ s.shift)

-- whether the number is at one of the steps
abbrev pub is_at_one : List Steps → ℕ → Bool
is_at_one all n = list_any (λ s. is_at s n) all

-- the number is the first one from the given one up that is a multiple of 2 ^ shift from the lowest
pub record IsNext (low shift from found : ℕ) : Type 0 where
  pub above : low ≤ found
  pub reached : from ≤ found
  pub same : found % 2 ^ shift ≡ low % 2 ^ shift
  pub first : (n : ℕ) → low ≤ n → from ≤ n → n % 2 ^ shift ≡ low % 2 ^ shift → found ≤ n

-- whether the number is marked, where a list has those that are not
abbrev pub is_marked : List ℕ → ℕ → Bool
is_marked gaps x = not (has gaps x)

-- every number is marked
abbrev pub AreAllMarked : List ℕ → Type 0
AreAllMarked marks = (x : ℕ) → x < 4096 → IsTrue (is_marked marks x)

-- what was marked is
abbrev pub AreStillMarked : List ℕ → List ℕ → Type 0
AreStillMarked old new = (x : ℕ) → x < 4096 → IsTrue (is_marked old x) → IsTrue (is_marked new x)

-- the numbers from the first to the last one, 2 ^ shift apart
abbrev pub HaveEach : List ℕ → ℕ → ℕ → ℕ → Type 0
HaveEach marks first last shift = (x : ℕ) → first ≤ x → x ≤ last → x % 2 ^ shift ≡ first % 2 ^ shift → IsTrue (is_marked marks x)

-- the numbers from a lowest to a highest one that are a multiple of 2 ^ shift from the lowest, from the base on
abbrev pub HaveSteps : List ℕ → ℕ → ℕ → ℕ → ℕ → Type 0
HaveSteps marks low high shift base = (n x : ℕ) → low ≤ n → n ≤ high → n % 2 ^ shift ≡ low % 2 ^ shift → n ≡ base + x → x < 4096 → IsTrue (is_marked marks x)

-- a number of the steps plus a distance, from the base on
abbrev pub HaveMoved : List ℕ → Steps → ℕ → ℕ → Type 0
HaveMoved marks steps distance base = (m x : ℕ) → IsTrue (is_at steps m) → m + distance ≡ base + x → x < 4096 → IsTrue (is_marked marks x)

-- a number of the first steps plus one of the others, from the base on
abbrev pub HaveSumsFrom : List ℕ → Steps → Steps → ℕ → Type 0
HaveSumsFrom marks first other base = (m n x : ℕ) → IsTrue (is_at first m) → IsTrue (is_at other n) → m + n ≡ base + x → x < 4096 → IsTrue (is_marked marks x)

-- a number of the first steps plus one of the other, modulo 2 ^ 32
abbrev pub HaveNearOf : List ℕ → Steps → Steps → Type 0
HaveNearOf marks first other = (m n : ℕ) → IsTrue (is_at first m) → IsTrue (is_at other n) → (m + n) % 2 ^ 32 < 4096 → IsTrue (is_marked marks ((m + n) % 2 ^ 32))

-- a number of the first steps plus one of the others, modulo 2 ^ 32
abbrev pub HaveNearWith : List ℕ → Steps → List Steps → Type 0
HaveNearWith marks first others = (m n : ℕ) → IsTrue (is_at first m) → IsTrue (is_at_one others n) → (m + n) % 2 ^ 32 < 4096 → IsTrue (is_marked marks ((m + n) % 2 ^ 32))

-- a number of one of the first steps plus one of the others, modulo 2 ^ 32
abbrev pub HaveNear : List ℕ → List Steps → List Steps → Type 0
HaveNear marks firsts others = (m n : ℕ) → IsTrue (is_at_one firsts m) → IsTrue (is_at_one others n) → (m + n) % 2 ^ 32 < 4096 → IsTrue (is_marked marks ((m + n) % 2 ^ 32))

-- the range is around all steps
abbrev pub IsAroundSteps : List Steps → ℕ × ℕ → Type 0
IsAroundSteps all span = (n : ℕ) → IsTrue (is_at_one all n) → (span.0 ≤ n) × (n ≤ span.1)

-- where a number from the first to the last one is not marked, the answer says so
abbrev pub HasGap : List ℕ → ℕ → ℕ → Bool → Type 0
HasGap marks first last answer = (x : ℕ) → first ≤ x → x ≤ last → x < 4096 → answer ≡ false → IsTrue (is_marked marks x)

-- the same of the numbers from the lowest to the highest one, from the base on
abbrev pub HasGapFrom : List ℕ → ℕ → ℕ → ℕ → Bool → Type 0
HasGapFrom marks low high base answer = (n x : ℕ) → low ≤ n → n ≤ high → n ≡ base + x → x < 4096 → answer ≡ false → IsTrue (is_marked marks x)

-- the same of those numbers modulo 2 ^ 32
abbrev pub HasNearGap : List ℕ → ℕ → ℕ → Bool → Type 0
HasNearGap marks low high answer = (n : ℕ) → low ≤ n → n ≤ high → n % 2 ^ 32 < 4096 → answer ≡ false → IsTrue (is_marked marks (n % 2 ^ 32))

-- where a number of one of the first steps plus one of the others is near and not marked, the answer says so
abbrev pub MayFillGap : List ℕ → List Steps → List Steps → Bool → Type 0
MayFillGap marks firsts others answer = answer ≡ false → HaveNear marks firsts others

-- the numbers from the first to the last one
abbrev pub HaveAll : List ℕ → ℕ → ℕ → Type 0
HaveAll marks first last = (x : ℕ) → first ≤ x → x ≤ last → IsTrue (is_marked marks x)
