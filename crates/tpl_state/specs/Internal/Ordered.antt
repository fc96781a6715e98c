-- Pairs of a key and a value in order.
use Rattle.std.specs.Prelude.{ℕ, Bool, true, ◌&&◌, not, nat_lt, List, [], ◌∷◌}
use Rattle.std.specs.List.{list_all}

-- no key is below one that stands before it
abbrev pub is_ascending : List (ℕ × ℕ) → Bool
is_ascending [] = true
is_ascending (e ∷ es) = list_all (λ d. not (nat_lt d.0 e.0)) es && is_ascending es
