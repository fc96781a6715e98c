-- What accesses do to a memory of which some words are known.
use Rattle.std.specs.Prelude.{◌≡◌, ℕ, ◌+◌, ◌*◌, ◌/◌, ◌%◌, ◌^◌, ◌<◌, ◌≤◌, true, ◌||◌, ◌==◌, nat_eq, if◌then◌else◌, List, [], ◌∷◌}
use Rattle.rv_mem.specs.declared.words.Seen.{Seen}
use Rattle.rv_mem.specs.declared.words.Seen.TheVariants.{Known, Untouched, Vacant}
use Rattle.rv_script.specs.declared.access.Access.{Access}
use Rattle.rv_script.specs.Memory.{word_after}

-- what is seen of word n after an access to it
abbrev pub seen_word_after : Access → ℕ → Seen → Seen
seen_word_after x n (Known w) = Known (word_after x.role x n w)
seen_word_after x n Untouched = Untouched
seen_word_after x n Vacant = Vacant

-- memory after an access
abbrev pub seen_accessed : Access → (ℕ → Seen) → ℕ → Seen
seen_accessed x at n = if nat_eq n (x.addr / 4) then seen_word_after x n (at n) else at n

-- memory after accesses, one after another
abbrev pub seen_after : List Access → (ℕ → Seen) → ℕ → Seen
seen_after [] at n = at n
seen_after (x ∷ xs) at n = seen_after xs (seen_accessed x at) n

-- one, two or four bytes, with a value that they can hold
pub record IsAccess (a : Access) : Type 0 where
  pub addr : a.addr < 2 ^ 32
  pub size : (a.size == 1 || (a.size == 2 || a.size == 4)) ≡ true
  pub value : a.value < 2 ^ (8 * a.size)

-- the access is of one byte at least, and keeps to one aligned word
pub record IsInWord (x : Access) : Type 0 where
  pub some : 0 < x.size
  pub within : x.addr % 4 + x.size ≤ 4
