-- A memory that knows each word of RAM.
use Rattle.std.specs.Prelude.{ℕ, ◌+◌, ◌-◌, Bool, ◌&&◌, nat_le, nat_lt, List, Option, Some, None, length, slice_index_or}
use Rattle.std.specs.List.{find}
use Rattle.rv_mem.specs.declared.words.Seen.{Seen}
use Rattle.rv_mem.specs.declared.words.Seen.TheVariants.{Known, Vacant}
use Rattle.rv_mem.specs.declared.full.Block.{Block}
use Rattle.rv_mem.specs.declared.full.FullMem.{FullMem}

-- the block has the word with this number
abbrev pub holds : Block → ℕ → Bool
holds b n = nat_le b.first n && nat_lt n (b.first + length b.words.items)

abbrev pub word_of : Block → ℕ → ℕ
word_of b n = slice_index_or b.words.items (n - b.first) 0

abbrev pub found : ℕ → Option Block → Seen
found n None = Vacant
found n (Some b) = Known (word_of b n)

abbrev pub blocks_at : List Block → ℕ → Seen
blocks_at blocks n = found n (find (λ b. holds b n) blocks)

-- what is seen of the word with each number
abbrev pub full_at : FullMem → ℕ → Seen
full_at m n = blocks_at m.blocks.items n
