-- What rows say.
use Rattle.std.specs.Prelude.{◌≡◌, ℕ, ◌^◌, ◌<◌, ◌+◌, ◌&&◌, bit_and, Bool, true, false, List, [], ◌∷◌, ◌++◌, Option, Some, None}
use Rattle.dom_set.specs.Elements.{is_in}
use Rattle.sv_walk.specs.Translation.{Reached, At, Fails}
use Rattle.row_parts.specs.Gaps.{counts}
use Rattle.row_parts.specs.declared.row.Row.{Row}
use Rattle.row_parts.specs.declared.row.RowEnd.{RowEnd}
use Rattle.row_parts.specs.declared.row.RowEnd.TheVariants.{Pa, Fault, Outside}

-- where a translation ends: at an address or in a trap, or beyond what the machine models
pub data End : Type 0 where
  Reaches : Reached → End
  Leaves : End

-- where a row's end leads an address
abbrev pub end_at : RowEnd → ℕ → End
end_at (Pa base mask) x = Reaches (At (base + bit_and x mask))
end_at (Fault cause) x = Reaches (Fails cause)
end_at Outside x = Leaves

-- a new word, or that there is none, is as a row has it
abbrev pub is_of : Option (List ℕ) → Option ℕ → Bool
is_of None None = true
is_of None (Some w) = false
is_of (Some words) None = false
is_of (Some words) (Some w) = is_in words w

abbrev pub when : Bool → List End → List End
when true ends = ends
when false ends = []

abbrev pub found : Bool → End → List End
found b end = when b (end ∷ [])

-- the row has the address with these new words
abbrev pub has : Row → ℕ → Option ℕ → Option ℕ → Bool
has row x root leaf = counts row.apart x && (is_in row.ea x && (is_of row.root root && is_of row.leaf leaf))

-- the ends of the rows that have the address with these new words
abbrev pub ends_in : List Row → ℕ → Option ℕ → Option ℕ → List End
ends_in [] x root leaf = []
ends_in (row ∷ rows) x root leaf = found (has row x root leaf) (end_at row.end x) ++ ends_in rows x root leaf

-- rows were appended that have just these ends
abbrev pub Adds : List Row → List Row → (ℕ → Option ℕ → Option ℕ → List End) → Type 0
Adds old new group = (x : ℕ) (root leaf : Option ℕ) → x < 2 ^ 32 → ends_in new x root leaf ≡ ends_in old x root leaf ++ group x root leaf
