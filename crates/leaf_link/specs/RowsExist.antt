-- That the loads and stores of every turn have rows.
use Rattle.std.specs.Prelude.{true, List}
use Rattle.sv_walk.specs.declared.entry.Kind.{Kind}
use Rattle.sv_walk.specs.declared.entry.Kind.TheVariants.{Load as ForLoad, Store as ForStore}
use Rattle.addr_rows.specs.Walks.{EntryRow}
use Rattle.leaf_link.specs.Turns.{Turn}
use Rattle.leaf_link.specs.Ways.{AreWords}
use Rattle.leaf_link.specs.Reaching.{AreRows}

-- some rows are those of all addresses
abbrev pub HasDataRows : Turn → Kind → Type 0
HasDataRows t kind = (rows : List EntryRow) × AreRows t (λ ea. true) kind rows

abbrev pub DataRowsExist : Type 0
DataRowsExist = (t : Turn) → AreWords t.known → HasDataRows t ForLoad × HasDataRows t ForStore
