-- Which choices of addresses and new entries the ways of rows have.
use Rattle.std.specs.Prelude.{ℕ, Bool, false, not, ◌&&◌, ◌==◌, List, Option, Some, None}
use Rattle.std.specs.List.{list_any}
use Rattle.dom_set.specs.Elements.{is_in}
use Rattle.foot_map.specs.declared.touch.Touch.{Touch}
use Rattle.rv_mem.specs.declared.words.Seen.{Seen}
use Rattle.sv_walk.specs.declared.entry.View.{View}
use Rattle.row_parts.specs.declared.row.Row.{Row}
use Rattle.row_parts.specs.declared.row.RowEnd.{RowEnd}
use Rattle.row_parts.specs.declared.row.RowEnd.TheVariants.{Pa, Fault, Outside}
use Rattle.row_parts.specs.Gaps.{counts}
use Rattle.addr_rows.specs.Walks.{has_value, row_holds}
use Rattle.data_bytes.specs.declared.starts.DataAccess.{DataAccess}
use Rattle.data_ways.specs.declared.making.Part.{Part}
use Rattle.data_ways.specs.declared.barring.NewRoot.{NewRoot}
use Rattle.data_ways.specs.declared.way.DataEnd.{DataEnd}
use Rattle.data_ways.specs.declared.way.DataEnd.TheVariants as ends
use Rattle.data_ways.specs.declared.way.DataWay.{DataWay}
use Rattle.data_ways.specs.Internal.Barring.{is_barred}
use Rattle.data_ways.specs.Internal.Tables.{is_newly_barred}

-- a way has an address and new entries
abbrev pub way_has : DataWay → ℕ → ℕ → ℕ → Bool
way_has way ea first second = counts way.apart ea && (is_in way.ea ea && (is_in way.first first && is_in way.second second))

-- a way whose end passes has them
abbrev pub in_ways : (DataEnd → Bool) → List DataWay → ℕ → ℕ → ℕ → Bool
in_ways test ways ea first second = list_any (λ way. test way.end && way_has way ea first second) ways

-- where a row leads, if it says so
abbrev pub end_for : RowEnd → Option DataEnd
end_for (Pa base mask) = Some (ends.At base mask)
end_for (Fault cause) = Some (ends.Fails cause)
end_for Outside = None

-- an address is one of a part's
abbrev pub part_in : Part → ℕ → Bool
part_in part x = counts part.apart x && is_in part.ea x

-- the end of a part of a row passes, and the second entry is one of its
abbrev pub part_has : (DataEnd → Bool) → Part → Bool → ℕ → Bool
part_has test part chosen second = test part.end && (chosen && has_value part.leaf.now second)

-- a possible root entry is one of a part's, with which the walk of an address is not barred
abbrev pub takes : (ℕ → Seen) → List Touch → ℕ → View → DataAccess → Part → ℕ → ℕ → NewRoot → Bool
takes at feet hart v access part ea first new = new.value == first && (has_value part.root.now new.value && not (is_newly_barred at feet hart v access part.end new.value ea))

-- a row with this end has a choice, with one of the listed root entries, and its walk is not barred
abbrev pub row_has_to : (ℕ → Seen) → List Touch → ℕ → View → DataAccess → (DataEnd → Bool) → List ℕ → Row → Option DataEnd → ℕ → ℕ → ℕ → Bool
row_has_to at feet hart v access test listed row None ea first second = false
row_has_to at feet hart v access test listed row (Some end) ea first second = test end && (row_holds row ea first second && (is_in listed first && not (is_barred at feet hart v access end ea first)))

abbrev pub row_has : (ℕ → Seen) → List Touch → ℕ → View → DataAccess → (DataEnd → Bool) → List ℕ → Row → ℕ → ℕ → ℕ → Bool
row_has at feet hart v access test listed row ea first second = row_has_to at feet hart v access test listed row (end_for row.end) ea first second

abbrev pub rows_have : (ℕ → Seen) → List Touch → ℕ → View → DataAccess → (DataEnd → Bool) → List ℕ → List Row → ℕ → ℕ → ℕ → Bool
rows_have at feet hart v access test listed rows ea first second = list_any (λ row. row_has at feet hart v access test listed row ea first second) rows
