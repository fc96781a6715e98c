-- Numbers that have given bits under a mask.
use Rattle.std.specs.Prelude.{◌≡◌, ℕ, ◌-◌, ◌%◌, ◌^◌, ◌==◌, bit_and, Bool, false, Option, Some, None}
use Rattle.set_pieces.specs.declared.pattern.Pattern.{Pattern}

-- the number has the pattern's bits
unfoldable pub matches : Pattern → ℕ → Bool
matches p x = bit_and x p.mask == p.bits

abbrev pub is_matched : Option Pattern → ℕ → Bool
is_matched None x = false
is_matched (Some p) x = matches p x

-- it has those of the pattern's bits that stand below bit k
unfoldable pub matches_below : Pattern → ℕ → ℕ → Bool
matches_below p k x = bit_and x (p.mask % 2 ^ k) == p.bits % 2 ^ k

-- the mask has all bits below some bit, and no others: the numbers that match are a power of two apart
abbrev pub IsStep : Pattern → Type 0
IsStep p = (k : ℕ) × (p.mask ≡ 2 ^ k - 1)
