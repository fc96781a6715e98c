-- Ranges of numbers of which those count that match a pattern.
use Rattle.std.specs.Prelude.{◌≡◌, ℕ, Bool, true, false, ◌&&◌, nat_le, Option, Some, None}
use Rattle.set_pieces.specs.Internal.Patterns.{matches}
use Rattle.set_pieces.specs.declared.run.Run.{Run}

-- whether the number is between the ends of the run
abbrev pub in_span : Run → ℕ → Bool
in_span p x = nat_le p.low x && nat_le x p.high

unfoldable pub in_run : Run → ℕ → Bool
in_run p x = in_span p x && matches p.pattern x

abbrev pub is_in_run : Option Run → ℕ → Bool
is_in_run None x = false
is_in_run (Some p) x = in_run p x

-- some number is in the run
abbrev pub HoldsSome : Run → Type 0
HoldsSome p = (x : ℕ) × (in_run p x ≡ true)
