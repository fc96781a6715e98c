-- Tables of page table entries as they are seen.
use Rattle.std.specs.Prelude.{◌≡◌, ℕ, ◌+◌, ◌*◌, ◌/◌, ◌%◌, ◌^◌, ◌<◌, ◌&&◌, nat_eq, nat_le, nat_lt, if◌then◌else◌, Bool, true, false, List, Option, Some, None, length, slice_get}
use Rattle.std.specs.List.{list_any}
use Rattle.dom_set.specs.Counting.{one}
use Rattle.row_parts.specs.Times.{times_by}
use Rattle.rv_mem.specs.declared.words.Seen.{Seen}
use Rattle.rv_mem.specs.declared.words.Seen.TheVariants.{Known, Untouched, Vacant}
use Rattle.row_parts.specs.declared.classes.Level.{Level}
use Rattle.row_parts.specs.declared.classes.Level.TheVariants.{Root, Second}

-- two words are seen alike
abbrev pub same : Seen → Seen → Bool
same (Known a) (Known b) = nat_eq a b
same Untouched Untouched = true
same Vacant Vacant = true
same _ _ = false

abbrev pub any_seen : List Seen → Seen → Bool
any_seen kinds seen = list_any (λ k. same k seen) kinds

-- what is seen of the word at a physical address; there is no RAM at 2 ^ 32 or more
abbrev pub seen_at : (ℕ → Seen) → ℕ → Seen
seen_at at addr = if nat_lt addr (2 ^ 32) then at (addr / 4) else Vacant

-- what is seen of entry i of the table in a frame
abbrev pub entry_at : (ℕ → Seen) → ℕ → ℕ → Seen
entry_at at frame i = seen_at at (frame * 4096 + i * 4)

pub record TableOf (at : ℕ → Seen) (frame : ℕ) (table : List Seen) : Type 0 where
  pub size : length table ≡ 1024
  pub entries : (i : ℕ) → i < 1024 → slice_get table i ≡ Some (entry_at at frame i)

abbrev pub is_kind : Seen → Option Seen → Bool
is_kind seen None = false
is_kind seen (Some other) = same seen other

-- the entry with this index is seen so
abbrev pub has_class : List Seen → Seen → ℕ → Bool
has_class table seen i = is_kind seen (slice_get table i)

abbrev pub times_seen : List Seen → Seen → ℕ
times_seen kinds seen = times_by (λ k. same k seen) kinds

-- what is seen in the table is seen once in the list
abbrev pub EachOnce : List Seen → List Seen → Type 0
EachOnce table kinds = (seen : Seen) → times_seen kinds seen ≡ one (any_seen table seen)

-- the lowest bit of an address's index in a table
abbrev pub low_bit : Level → ℕ
low_bit Root = 22
low_bit Second = 12

-- the index of an address in its second table, bits 21:12
abbrev pub second_index : ℕ → ℕ
second_index x = x / 2 ^ 12 % 2 ^ 10

-- it is one of those from the first up to, not including, the last
abbrev pub has_index : ℕ → ℕ → ℕ → Bool
has_index first end x = nat_le first (second_index x) && nat_lt (second_index x) end
