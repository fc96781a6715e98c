-- What bars a walk, by the tables of page table entries that it reads.
use Rattle.std.specs.Prelude.{◌≡◌, ℕ, ◌+◌, ◌*◌, ◌/◌, ◌%◌, ◌^◌, ◌<◌, Bool, true, false, not, ◌&&◌, ◌||◌, ◌==◌, if◌then◌else◌, bit_and, List, Option, Some, None}
use Rattle.std.specs.List.{list_any}
use Rattle.dom_set.specs.Elements.{is_in}
use Rattle.foot_map.specs.declared.touch.Touch.{Touch}
use Rattle.rv_mem.specs.declared.words.Seen.{Seen}
use Rattle.rv_mem.specs.declared.words.Seen.TheVariants as seen
use Rattle.rv_mem.specs.Seen.{is_untouched}
use Rattle.sv_walk.specs.declared.entry.View.{View}
use Rattle.sv_walk.specs.Entry.{is_invalid, is_pointer, page_number}
use Rattle.sv_walk.specs.Translation.{is_translated, root_address, second_address}
use Rattle.row_parts.specs.declared.classes.Level.{Level}
use Rattle.row_parts.specs.declared.classes.Level.TheVariants.{Root, Second}
use Rattle.row_parts.specs.Classes.{seen_at}
use Rattle.data_bytes.specs.Sets.{IsSetOf}
use Rattle.data_bytes.specs.declared.starts.DataAccess.{DataAccess}
use Rattle.data_ways.specs.declared.way.DataEnd.{DataEnd}
use Rattle.data_ways.specs.declared.pointers.Pointer.{Pointer}
use Rattle.data_ways.specs.declared.barring.RootTable.{RootTable}
use Rattle.data_ways.specs.declared.barring.NewRoot.{NewRoot}
use Rattle.data_ways.specs.Internal.Barring.{bars, races}

-- the index of an address in a table: bits 31:22, or 21:12
abbrev pub index_at : Level → ℕ → ℕ
index_at Root ea = ea / 2 ^ 22
index_at Second ea = ea / 2 ^ 12 % 2 ^ 10

-- the physical address of its entry in the table in a frame
abbrev pub entry_of : Level → ℕ → ℕ → ℕ
entry_of level frame ea = frame * 4096 + index_at level ea * 4

-- a mask and the bits that just the addresses with an index have under it
abbrev pub IsPatternOf : Level → ℕ → ℕ × ℕ → Type 0
IsPatternOf level index p = (ea : ℕ) → ea < 2 ^ 32 → (bit_and ea p.0 == p.1) ≡ (index_at level ea == index)

-- what is seen of a root entry is a known pointer to a table whose frame passes
abbrev pub leads_on : Seen → (ℕ → Bool) → Bool
leads_on seen.Vacant test = false
leads_on (seen.Known entry) test = not (is_invalid entry) && (is_pointer entry && test (page_number entry))
leads_on seen.Untouched test = false

-- the address is one of a pointer's, to a table whose frame passes
abbrev pub any_pointer : List Pointer → (ℕ → Bool) → ℕ → Bool
any_pointer pointers test ea = list_any (λ p. is_in p.ea ea && test p.frame) pointers

-- the walk of an address reads a word that passes, whatever its root entry is where it is new
abbrev pub meets : (ℕ → Seen) → View → (ℕ → Bool) → ℕ → Bool
meets at v test ea = test (root_address v ea) || leads_on (seen_at at (root_address v ea)) (λ frame. test (entry_of Second frame ea))

-- it does behind a new root entry with this value
abbrev pub meets_behind : (ℕ → Seen) → View → (ℕ → Bool) → ℕ → ℕ → Bool
meets_behind at v test first ea = is_untouched (seen_at at (root_address v ea)) && (not (is_invalid first) && (is_pointer first && test (second_address ea first)))

-- the walk of an address is barred whatever its root entry is where it is new
abbrev pub is_always_barred : (ℕ → Seen) → List Touch → ℕ → View → DataAccess → DataEnd → ℕ → Bool
is_always_barred at feet hart v access end ea = if is_translated v then meets at v (bars at feet hart access end ea) ea else false

-- it is behind a new root entry with this value
abbrev pub is_newly_barred : (ℕ → Seen) → List Touch → ℕ → View → DataAccess → DataEnd → ℕ → ℕ → Bool
is_newly_barred at feet hart v access end first ea = if is_translated v then meets_behind at v (bars at feet hart access end ea) first ea else false

-- what is kept of the root table
pub record IsRootTable (at : ℕ → Seen) (feet : List Touch) (hart : ℕ) (v : View) (table : RootTable) : Type 0 where
  pub frame : table.frame ≡ v.satp % 2 ^ 22
  pub pointers : (test : ℕ → Bool) (ea : ℕ) → ea < 2 ^ 32 → any_pointer table.pointers.items test ea ≡ leads_on (seen_at at (root_address v ea)) test
  pub untouched : IsSetOf (λ ea. is_untouched (seen_at at (root_address v ea))) table.untouched
  pub racing : IsSetOf (meets at v (races at feet hart)) table.racing

-- there is one where addresses are translated
abbrev pub IsTable : (ℕ → Seen) → List Touch → ℕ → View → Option RootTable → Type 0
IsTable at feet hart v None = is_translated v ≡ false
IsTable at feet hart v (Some table) = (is_translated v ≡ true) × IsRootTable at feet hart v table

-- what is kept of a possible root entry
abbrev pub IsNewRoot : (ℕ → Seen) → List Touch → ℕ → View → NewRoot → Type 0
IsNewRoot at feet hart v new = IsSetOf (λ ea. is_translated v && meets_behind at v (races at feet hart) new.value ea) new.racing
