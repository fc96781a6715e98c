-- What new page table entries may be.
use Rattle.std.specs.Prelude.{◌≡◌, ℕ, ◌+◌, ◌*◌, ◌/◌, ◌^◌, ◌==◌, Bool, ◌||◌, List}
use Rattle.std.specs.List.{list_any}
use Rattle.dom_set.specs.Counting.{one}
use Rattle.row_parts.specs.Times.{times_by}
use Rattle.row_parts.specs.declared.forms.Forms.{Forms}

-- a pointer to the table in a frame: its page number with V alone (Privileged, 4.3.1)
abbrev pub is_pointer_to : List ℕ → ℕ → Bool
is_pointer_to tables w = list_any (λ t. t / 2 ^ 12 * 2 ^ 10 + 1 == w) tables

-- a leaf with one of the flags
abbrev pub with_flag : ℕ → List ℕ → ℕ → Bool
with_flag leaf flags w = list_any (λ b. leaf + b == w) flags

-- a leaf that leads to the superpage that a frame lies in
abbrev pub is_superpage_in : List ℕ → List ℕ → ℕ → Bool
is_superpage_in pool flags w = list_any (λ p. with_flag (p / 2 ^ 22 * 2 ^ 20) flags w) pool

-- a leaf that leads to a frame
abbrev pub is_page_in : List ℕ → List ℕ → ℕ → Bool
is_page_in pool flags w = list_any (λ p. with_flag (p / 2 ^ 12 * 2 ^ 10) flags w) pool

-- what a new root entry may be
abbrev pub is_first : Forms → ℕ → Bool
is_first f w = is_pointer_to f.tables.items w || is_superpage_in f.pool.items f.flags.items w

-- what a new second entry may be
abbrev pub is_second : Forms → ℕ → Bool
is_second f w = is_page_in f.pool.items f.flags.items w

-- the address lies in a frame in which new entries may stand
abbrev pub is_in_tables : List ℕ → ℕ → Bool
is_in_tables tables addr = list_any (λ t. t / 2 ^ 12 == addr / 2 ^ 12) tables

abbrev pub times_in : List ℕ → ℕ → ℕ
times_in vs w = times_by (λ v. v == w) vs

-- the list has each number that passes the test once, and no others
abbrev pub IsOnce : (ℕ → Bool) → List ℕ → Type 0
IsOnce test vs = (w : ℕ) → times_in vs w ≡ one (test w)
