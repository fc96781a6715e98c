-- Pairs by ascending key: where one goes, and what stands at a key.
use Rattle.std.specs.Prelude.{ℕ, ◌+◌, ◌==◌, nat_lt, List, [], ◌∷◌, Option, Some, None, if◌then◌else◌}

-- how many pairs stand before the first of a greater key
abbrev pub place_of : ℕ → List (ℕ × ℕ) → ℕ
place_of key [] = 0
place_of key (e ∷ es) = if nat_lt key e.0 then 0 else place_of key es + 1

-- the value of a pair, if it has the key
abbrev pub value_in : ℕ → ℕ × ℕ → Option ℕ
value_in key e = if e.0 == key then Some e.1 else None

-- the value of the first pair with the key
abbrev pub value_of : ℕ → List (ℕ × ℕ) → Option ℕ
value_of key [] = None
value_of key (e ∷ es) = if e.0 == key then Some e.1 else value_of key es
