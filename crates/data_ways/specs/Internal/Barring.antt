-- What is tested of a walk: that none of its words races, and that no known one is the word to which a store goes.
use Rattle.std.specs.Prelude.{ℕ, ◌+◌, ◌/◌, ◌%◌, ◌^◌, ◌==◌, Bool, false, not, ◌&&◌, ◌||◌, if◌then◌else◌, bit_and, List}
use Rattle.foot_map.specs.declared.touch.Touch.{Touch}
use Rattle.rv_mem.specs.declared.words.Seen.{Seen}
use Rattle.rv_mem.specs.declared.words.Seen.TheVariants as seen
use Rattle.rv_mem.specs.Seen.{is_known, is_there}
use Rattle.sv_walk.specs.declared.entry.View.{View}
use Rattle.sv_walk.specs.Entry.{is_invalid, is_pointer}
use Rattle.sv_walk.specs.Translation.{is_translated, root_address, second_address}
use Rattle.row_parts.specs.Classes.{seen_at}
use Rattle.fetch_ways.specs.Ways.{is_free_walk}
use Rattle.data_bytes.specs.declared.starts.DataAccess.{DataAccess}
use Rattle.data_bytes.specs.declared.starts.DataAccess.TheVariants.{Store}
use Rattle.data_ways.specs.declared.way.DataEnd.{DataEnd}
use Rattle.data_ways.specs.declared.way.DataEnd.TheVariants as ends

-- the word at a physical address, a multiple of 4, is there, and the walk of it races
abbrev pub races : (ℕ → Seen) → List Touch → ℕ → ℕ → Bool
races at feet hart word = is_there (seen_at at word) && not (is_free_walk feet hart word)

-- a store with this address and end goes to a word that is known
abbrev pub is_stored : (ℕ → Seen) → DataAccess → DataEnd → ℕ → ℕ → Bool
is_stored at Store (ends.At base mask) ea word = is_known (seen_at at word) && word / 4 == (base + bit_and ea mask) % 2 ^ 32 / 4
is_stored at access end ea word = false

-- the word at a physical address bars the walk that reads it
abbrev pub bars : (ℕ → Seen) → List Touch → ℕ → DataAccess → DataEnd → ℕ → ℕ → Bool
bars at feet hart access end ea word = races at feet hart word || is_stored at access end ea word

-- the second entry does, behind a root entry with this value
abbrev pub bars_behind : (ℕ → Seen) → List Touch → ℕ → DataAccess → DataEnd → ℕ → ℕ → Bool
bars_behind at feet hart access end ea entry = not (is_invalid entry) && (is_pointer entry && bars at feet hart access end ea (second_address ea entry))

-- by what is seen of the root entry; first: what it is where it is new
abbrev pub bars_by_root : (ℕ → Seen) → List Touch → ℕ → DataAccess → DataEnd → ℕ → Seen → ℕ → Bool
bars_by_root at feet hart access end ea seen.Vacant first = false
bars_by_root at feet hart access end ea (seen.Known entry) first = bars_behind at feet hart access end ea entry
bars_by_root at feet hart access end ea seen.Untouched first = bars_behind at feet hart access end ea first

-- the walk of an address with this new root entry, if it is new, is barred where it ends so
abbrev pub is_barred : (ℕ → Seen) → List Touch → ℕ → View → DataAccess → DataEnd → ℕ → ℕ → Bool
is_barred at feet hart v access end ea first =
    if is_translated v
    then bars at feet hart access end ea (root_address v ea) || bars_by_root at feet hart access end ea (seen_at at (root_address v ea)) first
    else false
