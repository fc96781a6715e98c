-- Memory of which the words of a start are given.
use Rattle.std.specs.Prelude.{◌≡◌, ℕ, ◌+◌, ◌*◌, Bool, true, ◌&&◌, nat_le, if◌then◌else◌, All, List, [], ◌∷◌, Option, Some, None}
use Rattle.std.specs.List.{AllByRecursion}
use Rattle.rv_mem.specs.declared.words.Seen.{Seen}
use Rattle.rv_mem.specs.declared.words.Seen.TheVariants.{Known, Untouched, Vacant}
use Rattle.rv_hart.specs.declared.record.Record.{Record}
use Rattle.rv_hart.specs.Effects.{IsInWord}
use Rattle.tpl_ast.specs.declared.template.Region.{Region}
use Rattle.tpl_admit.specs.declared.certificate.Cert.{Cert}
use Rattle.tpl_admit.specs.Starts.{word_of, lookup}
use Rattle.tpl_ast.specs.States.{AreStartWords, is_in_ram}
use Rattle.given_start.specs.Internal.Regions.{AreAligned}

-- keys from a number on, in ascending order and each once
abbrev pub is_ascending : ℕ → List (ℕ × ℕ) → Bool
is_ascending from [] = true
is_ascending from (e ∷ es) = nat_le from e.0 && is_ascending (e.0 + 1) es

-- the value that is given to word n
abbrev pub given_word : List (ℕ × ℕ) → ℕ → Option ℕ
given_word words n = lookup words (n * 4)

-- a word of RAM with this value is seen where a value was given to it
abbrev pub seen_given : Option ℕ → ℕ → Seen
seen_given None word = Untouched
seen_given (Some first) word = Known word

abbrev pub seen_in : List Region → (ℕ → Option ℕ) → (ℕ → ℕ) → ℕ → Seen
seen_in ram given memory n = if is_in_ram ram (n * 4) then seen_given (given n) (memory n) else Vacant

-- of a whole memory just the words are seen to which the start gave a value, which lie in RAM
pub record Shows (ram : List Region) (given : ℕ → Option ℕ) (memory : ℕ → ℕ) (at : ℕ → Seen) : Type 0 where
  pub words : (n : ℕ) → at n ≡ seen_in ram given memory n
  pub inside : (n v : ℕ) → given n ≡ Some v → is_in_ram ram (n * 4) ≡ true

-- of each RAM, given words and whole memory of which this is seen
abbrev pub WhereShown : (ℕ → Seen) → (List Region → (ℕ → Option ℕ) → (ℕ → ℕ) → Type 0) → Type 0
WhereShown at P = (ram : List Region) (given : ℕ → Option ℕ) (memory : ℕ → ℕ) → Shows ram given memory at → P ram given memory

-- this is seen of a memory with a certificate's RAM and given words
abbrev pub ShowsOf : Cert → (ℕ → ℕ) → (ℕ → Seen) → Type 0
ShowsOf c memory at = Shows c.template.ram (word_of c) memory at

-- aligned words in a RAM of whole words
pub record IsStart (ram : List Region) (words : List (ℕ × ℕ)) : Type 0 where
  pub ram_is : AreAligned ram
  pub words_are : AreStartWords ram 0 words

-- the accesses of records keep to words
abbrev pub AreInWords : List Record → Type 0
AreInWords rs = AllByRecursion (λ r. All IsInWord r.accesses) rs
