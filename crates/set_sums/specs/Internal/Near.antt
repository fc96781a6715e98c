-- Differences of two sets that are near 0.
use Rattle.std.specs.Prelude.{ℕ, ◌+◌, ◌-◌, ◌%◌, ◌^◌, ◌<◌, List, IsTrue}
use Rattle.lane_bits.specs.Pages.{has}
use Rattle.dom_set.specs.declared.track.Track.{Track}
use Rattle.dom_set.specs.Elements.{is_in, is_within}
use Rattle.dom_set.specs.Tracks.{is_on, is_on_one}
use Rattle.near_marks.specs.declared.steps.Steps.{Steps}
use Rattle.near_marks.specs.Internal.Near.{is_at, is_at_one}

-- what is on the track is at the steps
abbrev pub IsAlong : Track → Steps → Type 0
IsAlong track steps = (x : ℕ) → IsTrue (is_on track x) → IsTrue (is_at steps x)

-- what leads to 2 ^ 32 and 2,048 when a number of the track is added is
abbrev pub IsAgainst : Track → Steps → Type 0
IsAgainst track steps = (x : ℕ) → IsTrue (is_on track x) → IsTrue (is_at steps (2 ^ 32 + 2048 - x))

-- what is on one of the tracks is at one of the steps
abbrev pub AreForward : List Track → List Steps → Type 0
AreForward tracks all = (x : ℕ) → IsTrue (is_on_one tracks x) → IsTrue (is_at_one all x)

-- what leads to 2 ^ 32 and 2,048 when a number of the tracks is added is at one of the steps
abbrev pub AreBackward : List Track → List Steps → Type 0
AreBackward tracks all = (x : ℕ) → IsTrue (is_on_one tracks x) → IsTrue (is_at_one all (2 ^ 32 + 2048 - x))

-- what is marked and below an end is in one of the ranges, less 2,048, modulo 2 ^ 32
abbrev pub AreInRanges : List ℕ → ℕ → List (ℕ × ℕ) → Type 0
AreInRanges marks end ranges = (x : ℕ) → x < end → IsTrue (has marks x) → IsTrue (is_within ranges ((2 ^ 32 - 2048 + x) % 2 ^ 32))

-- every element is one of the 2,048 words from 0 on or one of the last 2,048
abbrev pub IsNarrow : List ℕ → Type 0
IsNarrow set = (v : ℕ) → IsTrue (is_in set v) → (v + 2048) % 2 ^ 32 < 4096

-- those of these words that give an element of the first set when one of the second is added, modulo 2 ^ 32
abbrev pub HasNearDifferences : List ℕ → List ℕ → List ℕ → Type 0
HasNearDifferences first second set = (v w : ℕ) → v < 2 ^ 32 → (v + 2048) % 2 ^ 32 < 4096 → IsTrue (is_in second w) → IsTrue (is_in first ((v + w) % 2 ^ 32)) → IsTrue (is_in set v)

-- those of the near words that give a number of the first tracks when a word of the others is added, modulo 2 ^ 32
abbrev pub HasNearOn : List Track → List Track → List ℕ → Type 0
HasNearOn firsts others set = (v w : ℕ) → v < 2 ^ 32 → (v + 2048) % 2 ^ 32 < 4096 → w < 2 ^ 32 → IsTrue (is_on_one others w) → IsTrue (is_on_one firsts ((v + w) % 2 ^ 32)) → IsTrue (is_in set v)
