-- RAM as a list of regions.
use Rattle.std.specs.Prelude.{◌≡◌, ℕ, ◌*◌, ◌%◌, Bool, ◌&&◌, nat_le, nat_lt, List, All}
use Rattle.std.specs.List.{list_any}

-- the word with this number lies in the region, which goes from a low address up to, not including, a high one
abbrev pub in_region : ℕ × ℕ → ℕ → Bool
in_region r n = nat_le r.0 (n * 4) && nat_lt (n * 4) r.1

-- a word with this number is there; the number of a word is its address divided by 4
abbrev pub in_ram : List (ℕ × ℕ) → ℕ → Bool
in_ram regions n = list_any (λ r. in_region r n) regions

-- the region is made of whole words
abbrev pub IsWhole : ℕ × ℕ → Type 0
IsWhole r = (r.0 % 4 ≡ 0) × (r.1 % 4 ≡ 0)

abbrev pub AreWhole : List (ℕ × ℕ) → Type 0
AreWhole regions = All IsWhole regions
