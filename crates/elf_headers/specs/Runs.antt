-- Runs of words that lie one behind the other.
use Rattle.std.specs.Prelude.{ℕ, zero, suc, ◌+◌, ◌*◌, ◌==◌, if◌then◌else◌, List, [], ◌∷◌, sum_by}
use Rattle.std.specs.List.{flat_map}
use Rattle.elf_headers.specs.declared.runs.Run.{Run}

-- the address of a word
abbrev pub address_of : ℕ × ℕ → ℕ
address_of word = word.0

-- the runs of words at these addresses, behind a run that is still open: of so many words from an address on
abbrev pub runs_from : ℕ → ℕ → List ℕ → List Run
runs_from addr words [] = record { addr = addr; words = words } ∷ []
runs_from addr words (a ∷ rest) =
    if a == addr + 4 * words then runs_from addr (words + 1) rest
    else record { addr = addr; words = words } ∷ runs_from a 1 rest

-- the longest runs of words at these addresses
abbrev pub runs_of : List ℕ → List Run
runs_of [] = []
runs_of (a ∷ rest) = runs_from a 1 rest

-- the addresses of so many words
abbrev pub addresses : ℕ → ℕ → List ℕ
addresses addr zero = []
addresses addr (suc n) = addr ∷ addresses (addr + 4) n

abbrev pub addresses_of : List Run → List ℕ
addresses_of runs = flat_map (λ r. addresses r.addr r.words) runs

-- how many words the runs have
abbrev pub total_words : List Run → ℕ
total_words runs = sum_by (λ r. r.words) runs
