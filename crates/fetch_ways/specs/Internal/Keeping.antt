-- What is tested of a walk: that it races with nothing and, where an entry is new, leads to a word that may be new as well.
use Rattle.std.specs.Prelude.{ℕ, ◌+◌, ◌/◌, ◌%◌, ◌^◌, ◌==◌, Bool, true, false, not, ◌&&◌, ◌||◌, if◌then◌else◌, bit_and, filter, List, [], ◌∷◌, ◌++◌, Option, Some, None}
use Rattle.std.specs.List.{list_any}
use Rattle.dom_set.specs.Elements.{elements_of, is_in}
use Rattle.foot_map.specs.declared.touch.Touch.{Touch}
use Rattle.rv_mem.specs.declared.words.Seen.{Seen}
use Rattle.rv_mem.specs.declared.words.Seen.TheVariants as seen
use Rattle.rv_mem.specs.Seen.{is_known}
use Rattle.sv_walk.specs.declared.entry.View.{View}
use Rattle.sv_walk.specs.Entry.{is_invalid, is_pointer}
use Rattle.sv_walk.specs.Translation.{is_translated, root_address, second_address}
use Rattle.row_parts.specs.declared.row.Row.{Row}
use Rattle.row_parts.specs.declared.row.RowEnd.{RowEnd}
use Rattle.row_parts.specs.declared.row.RowEnd.TheVariants.{Pa, Fault, Outside}
use Rattle.row_parts.specs.Classes.{seen_at}
use Rattle.row_parts.specs.Gaps.{counts}
use Rattle.addr_rows.specs.Walks.{has_value}
use Rattle.fetch_ways.specs.Ways.{is_free_walk}
use Rattle.fetch_ways.specs.declared.way.FetchEnd.{FetchEnd}
use Rattle.fetch_ways.specs.declared.way.FetchEnd.TheVariants as ends
use Rattle.fetch_ways.specs.declared.way.FetchWay.{FetchWay}

-- where a walk leads to an address, the word there is not known and is none of those at these addresses
abbrev pub is_clear : (ℕ → Seen) → List ℕ → FetchEnd → Bool
is_clear at words (ends.At pa) = not (is_known (at (pa / 4)) || list_any (λ word. word / 4 == pa / 4) words)
is_clear at words (ends.Fails cause) = true

-- by what is seen of a second entry. new: the root entry is new; free: the walk of the second one races with nothing; near and far: the end is clear
-- of the root entry's word, and of both
abbrev pub with_second : Seen → Bool → Bool → Bool → Bool → Bool
with_second seen.Vacant new near free far = not new || near
with_second (seen.Known w) new near free far = free && (not new || far)
with_second seen.Untouched new near free far = free && far

-- behind a root entry with this value, whose word is at this address
abbrev pub keeps_behind : (ℕ → Seen) → List Touch → ℕ → ℕ → ℕ → ℕ → Bool → FetchEnd → Bool
keeps_behind at feet hart pc root entry new end =
    if is_invalid entry then not new || is_clear at (root ∷ []) end
    else if is_pointer entry
    then with_second (seen_at at (second_address pc entry)) new (is_clear at (root ∷ []) end) (is_free_walk feet hart (second_address pc entry)) (is_clear at (root ∷ second_address pc entry ∷ []) end)
    else not new || is_clear at (root ∷ []) end

-- by what is seen of the root entry; first: what it is where it is new
abbrev pub with_root : (ℕ → Seen) → List Touch → ℕ → ℕ → ℕ → Seen → ℕ → FetchEnd → Bool
with_root at feet hart pc root seen.Vacant first end = true
with_root at feet hart pc root (seen.Known entry) first end = is_free_walk feet hart root && keeps_behind at feet hart pc root entry false end
with_root at feet hart pc root seen.Untouched first end = is_free_walk feet hart root && keeps_behind at feet hart pc root first true end

-- the walk of a fetch with this new root entry, if it is new, keeps where it ends so
abbrev pub keeps_with : (ℕ → Seen) → List Touch → ℕ → View → ℕ → ℕ → FetchEnd → Bool
keeps_with at feet hart view pc first end = if is_translated view then with_root at feet hart pc (root_address view pc) (seen_at at (root_address view pc)) first end else true

-- where a row leads the pc, if it says so
abbrev pub end_for : ℕ → RowEnd → Option FetchEnd
end_for pc (Pa base mask) = Some (ends.At ((base + bit_and pc mask) % 2 ^ 32))
end_for pc (Fault cause) = Some (ends.Fails cause)
end_for pc Outside = None

-- a row has a new root entry with which the walk keeps
abbrev pub passes : (ℕ → Seen) → List Touch → ℕ → View → ℕ → Row → FetchEnd → ℕ → Bool
passes at feet hart view pc row end first = has_value row.root first && keeps_with at feet hart view pc first end

-- the second entries of a row, or 0 where they are not new
abbrev pub seconds_of : Option (List ℕ) → List ℕ
seconds_of None = elements_of (is_in (0 ∷ []))
seconds_of (Some words) = words

-- a way with these root entries, if there are any
abbrev pub way_with : List ℕ → List ℕ → FetchEnd → List FetchWay
way_with [] second end = []
way_with (first ∷ firsts) second end = record { first = elements_of (is_in (first ∷ firsts)); second = second; end = end } ∷ []

abbrev pub way_to : (ℕ → Seen) → List Touch → ℕ → View → ℕ → List ℕ → Row → Option FetchEnd → List FetchWay
way_to at feet hart view pc listed row None = []
way_to at feet hart view pc listed row (Some end) = way_with (filter (passes at feet hart view pc row end) listed) (seconds_of row.leaf) end

-- the way of a row, with the root entries of the list that pass
abbrev pub way_of : (ℕ → Seen) → List Touch → ℕ → View → ℕ → List ℕ → Row → List FetchWay
way_of at feet hart view pc listed row = if counts row.apart pc && is_in row.ea pc then way_to at feet hart view pc listed row (end_for pc row.end) else []

abbrev pub ways_of : (ℕ → Seen) → List Touch → ℕ → View → ℕ → List ℕ → List Row → List FetchWay
ways_of at feet hart view pc listed [] = []
ways_of at feet hart view pc listed (row ∷ rows) = way_of at feet hart view pc listed row ++ ways_of at feet hart view pc listed rows
