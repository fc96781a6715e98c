-- What is seen of a word of memory.
use Rattle.std.specs.Prelude.{ℕ, Bool, true, false, Option, Some, None}
use Rattle.rv_mem.specs.declared.words.Seen.{Seen}
use Rattle.rv_mem.specs.declared.words.Seen.TheVariants.{Known, Untouched, Vacant}

-- the word's value, where it is known
abbrev pub known_word : Seen → Option ℕ
known_word (Known w) = Some w
known_word Untouched = None
known_word Vacant = None

-- the word is one of RAM
abbrev pub is_there : Seen → Bool
is_there (Known w) = true
is_there Untouched = true
is_there Vacant = false

-- the word has a value
abbrev pub is_known : Seen → Bool
is_known (Known w) = true
is_known Untouched = false
is_known Vacant = false

-- the word is one of RAM that has no value yet
abbrev pub is_untouched : Seen → Bool
is_untouched (Known w) = false
is_untouched Untouched = true
is_untouched Vacant = false
