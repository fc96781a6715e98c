-- What accesses do to a whole memory: a word for each word number, which is its address divided by 4.
use Rattle.std.specs.Prelude.{ℕ, ◌+◌, ◌-◌, ◌*◌, ◌/◌, ◌%◌, ◌^◌, nat_eq, if◌then◌else◌, List, [], ◌∷◌}
use Rattle.rv_script.specs.declared.access.Access.{Access}
use Rattle.rv_script.specs.declared.access.Role.{Role}
use Rattle.rv_script.specs.declared.access.Role.TheVariants.{Fetch, Walk, Load, Store}
use Rattle.rv_script.specs.Bytes.{covers}

-- byte i of word n after a store
abbrev pub stored_byte : Access → ℕ → ℕ → ℕ → ℕ
stored_byte x n word i = if covers x (n * 4 + i) then x.value / 256 ^ (n * 4 + i - x.addr) % 256 else word / 256 ^ i % 256

abbrev pub stored_word : Access → ℕ → ℕ → ℕ
stored_word x n word = stored_byte x n word 0 + 256 * stored_byte x n word 1 + 65536 * stored_byte x n word 2 + 16777216 * stored_byte x n word 3

-- word n after an access to it
abbrev pub word_after : Role → Access → ℕ → ℕ → ℕ
word_after Fetch x n word = word
word_after Walk x n word = word
word_after Load x n word = word
word_after Store x n word = stored_word x n word

-- memory after an access
abbrev pub accessed : Access → (ℕ → ℕ) → ℕ → ℕ
accessed x words n = if nat_eq n (x.addr / 4) then word_after x.role x n (words n) else words n

-- memory after accesses, one after another
abbrev pub memory_after : List Access → (ℕ → ℕ) → ℕ → ℕ
memory_after [] words = words
memory_after (x ∷ xs) words = memory_after xs (accessed x words)
