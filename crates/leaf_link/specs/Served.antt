-- That the rows of addresses, as their code is said to make them, are those of leaves and of fetches.
use Rattle.std.specs.Prelude.{◌≡◌, ℕ, ◌^◌, ◌<◌, Bool, true, List, map}
use Rattle.sv_walk.specs.declared.entry.Kind.{Kind}
use Rattle.sv_walk.specs.declared.entry.Kind.TheVariants.{Fetch as ForFetch, Load as ForLoad, Store as ForStore}
use Rattle.sv_walk.specs.declared.entry.View.{View}
use Rattle.addr_rows.specs.Combinations.{Setting}
use Rattle.addr_rows.specs.Walks.{AreRows as AreEntryRows, EntryRow, LetsEntries, end_at}
use Rattle.addr_rows.specs.Laws.{Always}
use Rattle.rv_hart.specs.Machine.{data_view, fetch_view}
use Rattle.leaf_link.specs.Turns.{Turn, is_first_form, is_second_form, may_start}
use Rattle.leaf_link.specs.Reaching.{AreRows}
use Rattle.leaf_link.specs.FetchRows.{AreFetchRows, FetchRow}

-- what the translations of a kind depend on at a turn, and what new entries may be
abbrev pub setting_of : Turn → View → Kind → Setting
setting_of t view kind = record {
  ram = t.fixed.ram;
  view = view;
  kind = kind;
  tables = t.tables;
  first = is_first_form t;
  second = is_second_form t;
}

-- the rule of a turn lets just the forms be entries
abbrev pub EntriesAreLet : Type 0
EntriesAreLet = (t : Turn) (view : View) (kind : Kind) → LetsEntries (setting_of t view kind) (Always (may_start t))

-- rows of some pages are what the script of their translation does at the turn
abbrev pub AreRowsAt : Turn → View → Kind → (ℕ → Bool) → List EntryRow → Type 0
AreRowsAt t view kind pages rows = AreEntryRows (setting_of t view kind) t.known (Always (may_start t)) pages rows

-- then they are those of a leaf's loads, or of its stores
abbrev pub ServeData : Kind → Type 0
ServeData kind = (t : Turn) (pages : ℕ → Bool) (rows : List EntryRow) → AreRowsAt t (data_view t.fixed) kind pages rows → AreRows t pages kind rows

abbrev pub LoadRowsServe : Type 0
LoadRowsServe = ServeData ForLoad

abbrev pub StoreRowsServe : Type 0
StoreRowsServe = ServeData ForStore

-- and a row is one of a fetch by where it leads the pc
abbrev pub row_at : ℕ → EntryRow → FetchRow
row_at pc row = record { holds = row.holds pc; end = end_at row.end pc }

abbrev pub FetchRowsServe : Type 0
FetchRowsServe =
    (t : Turn) (pages : ℕ → Bool) (rows : List EntryRow) → t.fixed.pc < 2 ^ 32 → pages t.fixed.pc ≡ true → AreRowsAt t (fetch_view t.fixed) ForFetch pages rows
    → AreFetchRows t (map (row_at t.fixed.pc) rows)
