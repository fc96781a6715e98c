-- What an instruction writes to a control and status register, by a word that is open and another.
use Rattle.std.specs.Prelude.{◌≡◌, ℕ, ◌-◌, ◌^◌, ◌<◌, Bool, false, ◌&&◌, ◌==◌, ◌⊎◌, nat_eq, bit_and, bit_or, Option, Some, None, IsTrue}
use Rattle.rv_csr.specs.Table.{is_legal_at}
use Rattle.word_sets.specs.declared.sources.Made.{Made}
use Rattle.word_sets.specs.declared.sources.Made.TheVariants.{Itself, With, Without, From}

-- what is written: the open word, set or cleared in or by the other (Unprivileged, Zicsr)
abbrev pub made : Made → ℕ → ℕ → ℕ
made Itself word other = word
made With word other = bit_or word other
made Without word other = bit_and word (2 ^ 32 - 1 - other)
made From word other = bit_and other (2 ^ 32 - 1 - word)

-- the other word with which words with these bits come of the most open ones
abbrev pub best : Made → ℕ → ℕ
best Without bits = 2 ^ 32 - 1 - bits
best _ bits = bits

-- the pattern, if there is one, is that of the word
abbrev pub is_sourced : Option (ℕ × ℕ) → ℕ → Bool
is_sourced None v = false
is_sourced (Some p) v = bit_and v p.0 == p.1

-- the other is this word, if it is known
abbrev pub CanBe : Option ℕ → ℕ → Type 0
CanBe (Some known) other = other ≡ known
CanBe None other = Unit {0}

-- with a word that the other can be a word comes that passes a test
abbrev pub ComesOf : Made → Option ℕ → (ℕ → Bool) → ℕ → Type 0
ComesOf how known test v = (other : ℕ) × (other < 2 ^ 32) × CanBe known other × IsTrue (test (made how v other))

-- a legal word comes of the open one, or the open one is 0 and that writes nothing
abbrev pub IsLegalSource : ℕ → Made → Option ℕ → Bool → ℕ → Type 0
IsLegalSource csr how known zero v = IsTrue (zero && nat_eq v 0) ⊎ ComesOf how known (is_legal_at csr) v
