-- The addresses whose two indices are equal, and those between them: such pages are 1,025 pages apart.
use Rattle.std.specs.Prelude.{ℕ, ◌*◌, ◌/◌, ◌%◌, ◌^◌, ◌==◌, ◌&&◌, nat_lt, Bool, not}

-- the index in the root table, bits 31:22, is that in the second one, bits 21:12
abbrev pub are_indices_equal : ℕ → Bool
are_indices_equal x = x / 2 ^ 22 == x / 2 ^ 12 % 2 ^ 10

-- the address counts for a row: where both indices have to differ, they do
abbrev pub counts : Bool → ℕ → Bool
counts apart x = not (apart && are_indices_equal x)

-- the address lies in one of the first n gaps
abbrev pub is_in_gap : ℕ → ℕ → Bool
is_in_gap n x = not (x / 4096 % 1025 == 0) && nat_lt (x / 4096) (1025 * n)
