-- What is written: numbers, least byte first, and pieces one behind the other.
use Rattle.std.specs.Prelude.{ℕ, ◌-◌, ◌%◌, List, [], ◌∷◌, ◌++◌, length, replicate}
use Rattle.std.specs.List.{flat_map}
use Rattle.std.specs.Int.{w16, w32, to_le_bytes}

unfoldable pub byte : ℕ → List ℕ
byte n = n ∷ []

-- the low two bytes
unfoldable pub half : ℕ → List ℕ
half n = to_le_bytes w16 n

-- the low four bytes
unfoldable pub word : ℕ → List ℕ
word n = to_le_bytes w32 n

-- the zeros that make so many bytes a multiple of 4
unfoldable pub padding : ℕ → List ℕ
padding size = replicate ((4 - size % 4) % 4) 0

-- pieces one behind the other
abbrev pub pieces : List (List ℕ) → List ℕ
pieces [] = []
pieces (x ∷ []) = x
pieces (x ∷ y ∷ ys) = x ++ pieces (y ∷ ys)

-- a count in four bytes, and that many items
unfoldable pub counted : {A : Type 0} → (A → List ℕ) → List A → List ℕ
counted spelling items = word (length items) ++ flat_map spelling items

-- items, each written as the ones before it determine: from a state on, which each item moves on
unfoldable pub chained : {S A : Type 0} → (S → A → S) → (S → A → List ℕ) → S → List A → List ℕ
chained next spelling state [] = []
chained next spelling state (x ∷ xs) = spelling state x ++ chained next spelling (next state x) xs
