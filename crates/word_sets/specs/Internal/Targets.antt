-- The words that jump into a set.
use Rattle.std.specs.Prelude.{ℕ, ◌-◌, ◌%◌, ◌^◌, ◌<◌, List, IsTrue}
use Rattle.dom_set.specs.Elements.{is_in}

-- the second set has the words that are in the first when bit 0 is cleared
abbrev pub HasOddToo : List ℕ → List ℕ → Type 0
HasOddToo set both = (v : ℕ) → v < 2 ^ 32 → IsTrue (is_in set (v - v % 2)) → IsTrue (is_in both v)
