-- The words of a start, as a certificate lists them.
use Rattle.std.specs.Prelude.{◌≡◌, ℕ, ◌+◌, ◌*◌, ◌/◌, ◌%◌, ◌^◌, ◌<◌, ◌≤◌, true, Some, List, [], ◌∷◌}
use Rattle.rv_mem.specs.declared.words.Seen.{Seen}
use Rattle.rv_mem.specs.Ram.{in_ram}
use Rattle.tpl_admit.specs.Starts.{lookup}
use Rattle.part_machine.specs.Notes.{IsKnownAt}
use Rattle.part_machine.specs.Whole.{given}

-- an aligned word, which is known
abbrev pub IsWordAt : (ℕ → Seen) → ℕ → Type 0
IsWordAt at addr = (addr % 4 ≡ 0) × IsKnownAt at addr

-- each of the words lies in RAM
abbrev pub IsWithinRam : List (ℕ × ℕ) → List (ℕ × ℕ) → Type 0
IsWithinRam ram words = (n v : ℕ) → given words n ≡ Some v → in_ram ram n ≡ true

-- aligned words of RAM from an address on, in ascending order and each once, with words as values
abbrev pub AreListed : List (ℕ × ℕ) → ℕ → List (ℕ × ℕ) → Type 0
AreListed ram from [] = Unit {0}
AreListed ram from (e ∷ es) = (from ≤ e.0) × (e.0 % 4 ≡ 0) × (in_ram ram (e.0 / 4) ≡ true) × (e.1 < 2 ^ 32) × AreListed ram (e.0 + 4) es

-- pairs of address and value by ascending address have just the values that pairs of number and value give
pub record ListsWords (ram words pairs : List (ℕ × ℕ)) : Type 0 where
  pub values : (n : ℕ) → lookup pairs (n * 4) ≡ given words n
  pub listed : AreListed ram 0 pairs

-- a pair of number and value as one of address and value
abbrev pub at_address : ℕ × ℕ → ℕ × ℕ
at_address e = (e.0 * 4, e.1)
