-- Runs of bytes.
use Rattle.std.specs.Prelude.{ℕ, Bool, ◌&&◌, nat_le, List}
use Rattle.std.specs.List.{list_any}

-- the byte is in one of the runs, each from a first byte to a last
abbrev pub in_runs : List (ℕ × ℕ) → ℕ → Bool
in_runs runs x = list_any (λ r. nat_le r.0 x && nat_le x r.1) runs
