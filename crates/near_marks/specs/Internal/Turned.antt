-- Numbers below 4,096 by what they leave when they are divided by 64.
use Rattle.std.specs.Prelude.{◌≡◌, ℕ, Bool, false, ◌+◌, ◌*◌, ◌/◌, ◌%◌, ◌<◌, ◌≤◌, List, IsTrue}
use Rattle.lane_bits.specs.Pages.{has}
use Rattle.near_marks.specs.Internal.Near.{is_marked}

-- where the number stands among these
abbrev pub place_of : ℕ → ℕ
place_of x = x % 64 * 64 + x / 64

-- the second list has a number at its place just where the first has it
abbrev pub AreTurned : List ℕ → List ℕ → Type 0
AreTurned gaps turned = (x : ℕ) → x < 4096 → has turned (place_of x) ≡ has gaps x

-- all that leave the rest are marked
abbrev pub IsRowMarked : List ℕ → ℕ → Type 0
IsRowMarked gaps rest = (x : ℕ) → x < 4096 → x % 64 ≡ rest → IsTrue (is_marked gaps x)

-- each number is at its place, and what it leaves is among the rests
pub record AreKept (gaps turned rests : List ℕ) : Type 0 where
  pub places : AreTurned gaps turned
  pub rests_are : (x : ℕ) → x < 4096 → IsTrue (has gaps x) → IsTrue (has rests (x % 64))

-- the number is not before the place, and all between are marked
pub record IsFirstTurned (gaps : List ℕ) (from number : ℕ) : Type 0 where
  pub within : number < 4096
  pub reached : from ≤ place_of number
  pub first : (x : ℕ) → x < 4096 → from ≤ place_of x → place_of x < place_of number → IsTrue (is_marked gaps x)

-- all from the place on are marked
abbrev pub NoneTurned : List ℕ → ℕ → Type 0
NoneTurned gaps from = (x : ℕ) → x < 4096 → from ≤ place_of x → IsTrue (is_marked gaps x)

-- where a number from the first to the last one that leaves the rest is not marked, the answer says so
abbrev pub HasRowGap : List ℕ → ℕ → ℕ → ℕ → Bool → Type 0
HasRowGap gaps rest first last answer = (x : ℕ) → first ≤ x → x ≤ last → x < 4096 → x % 64 ≡ rest → answer ≡ false → IsTrue (is_marked gaps x)
