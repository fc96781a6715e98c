-- A memory of which some words are known.
use Rattle.std.specs.Prelude.{ℕ, if◌then◌else◌, Option, Some, None}
use Rattle.std.specs.BTreeMap.{get}
use Rattle.std.specs.Ordering.{nat_cmp}
use Rattle.rv_mem.specs.declared.words.Seen.{Seen}
use Rattle.rv_mem.specs.declared.words.Seen.TheVariants.{Known, Untouched, Vacant}
use Rattle.rv_mem.specs.declared.part.PartMem.{PartMem}
use Rattle.rv_mem.specs.Ram.{in_ram}

-- a word of RAM that has this value, or none yet
abbrev pub valued : Option ℕ → Seen
valued None = Untouched
valued (Some w) = Known w

-- what is seen of the word with each number
abbrev pub part_at : PartMem → ℕ → Seen
part_at m n = if in_ram m.ram n then valued (get nat_cmp m.words n) else Vacant
