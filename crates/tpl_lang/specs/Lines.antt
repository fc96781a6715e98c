-- The lines of a text.
use Rattle.std.specs.Prelude.{ℕ, ◌+◌, ◌-◌, Bool, not, ◌&&◌, ◌||◌, ◌==◌, List, [], ◌∷◌, length, take, slice_index, Option, Some, None, nat_lt, if◌then◌else◌}

-- how many bytes stand before the first b
abbrev pub length_until : ℕ → List ℕ → ℕ
length_until b [] = 0
length_until b (c ∷ cs) = if c == b then 0 else length_until b cs + 1

abbrev pub to_first : ℕ → List (List ℕ) → List (List ℕ)
to_first b [] = (b ∷ []) ∷ []
to_first b (l ∷ ls) = (b ∷ l) ∷ ls

-- a text is split at its line feeds
abbrev pub lines : List ℕ → List (List ℕ)
lines [] = [] ∷ []
lines (b ∷ bs) = if b == 10 then [] ∷ lines bs else to_first b (lines bs)

abbrev pub lines_left : Option (List ℕ) → List (List ℕ)
lines_left None = []
lines_left (Some bytes) = lines bytes

-- a line without the carriage return at its end
abbrev pub stripped : List ℕ → List ℕ
stripped l = if length l == 0 || not (slice_index l (length l - 1) == 13) then l else take (length l - 1) l

-- no tab, and not from a blank to a tilde
abbrev pub is_bad_byte : ℕ → Bool
is_bad_byte b = not (b == 9) && (nat_lt b 32 || nat_lt 126 b)

-- the line up to its comment, which a number sign begins
abbrev pub uncommented : List ℕ → List ℕ
uncommented bytes = take (length_until 35 bytes) bytes
