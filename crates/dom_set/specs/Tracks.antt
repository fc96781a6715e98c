-- Numbers that are a power of two apart.
use Rattle.std.specs.Prelude.{◌≡◌, true, ℕ, ◌%◌, ◌^◌, ◌==◌, ◌&&◌, nat_le, Bool, List}
use Rattle.std.specs.List.{list_any}
use Rattle.dom_set.specs.declared.track.Track.{Track}

-- whether the number is between the ends of the track and a multiple of 2 ^ shift from its lowest number
abbrev pub is_on : Track → ℕ → Bool
is_on t x = (nat_le t.low x && nat_le x t.high) && (x % 2 ^ t.shift == t.low % 2 ^ t.shift)

-- whether the number is on one of the tracks
abbrev pub is_on_one : List Track → ℕ → Bool
is_on_one tracks x = list_any (λ t. is_on t x) tracks

-- what is on one of the first tracks is on one of the second
abbrev pub AreKept : List Track → List Track → Type 0
AreKept first second = (x : ℕ) → is_on_one first x ≡ true → is_on_one second x ≡ true
