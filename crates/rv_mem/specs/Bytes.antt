-- Bytes of words, the lowest first.
use Rattle.std.specs.Prelude.{ℕ, ◌+◌, ◌*◌, ◌/◌, ◌%◌, ◌^◌, nat_eq, if◌then◌else◌}

-- byte i of a word of which byte k is replaced
abbrev pub byte_with : ℕ → ℕ → ℕ → ℕ → ℕ
byte_with word k v i = if nat_eq i k then v else word / 256 ^ i % 256

-- a word of which byte k is replaced
abbrev pub with_byte : ℕ → ℕ → ℕ → ℕ
with_byte word k v = byte_with word k v 0 + 256 * byte_with word k v 1 + 65536 * byte_with word k v 2 + 16777216 * byte_with word k v 3
