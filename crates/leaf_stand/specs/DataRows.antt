-- The rows of the addresses of loads and stores.
use Rattle.std.specs.Prelude.{List, IfSome}
use Rattle.dom_set.specs.Elements.{is_in}
use Rattle.sv_walk.specs.declared.entry.Kind.TheVariants.{Load as ForLoad, Store as ForStore}
use Rattle.addr_rows.specs.Walks.{EntryRow}
use Rattle.tpl_ast.specs.declared.template.Atom.{Atom}
use Rattle.data_goals.specs.declared.accesses.Accesses.{Accesses}
use Rattle.leaf_link.specs.Turns.{Turn}
use Rattle.leaf_link.specs.Reaching.{AreRows, HasPages}
use Rattle.leaf_stand.specs.declared.stand.Stand.{Stand}

-- the rows are those of the pages, which have every address that the leaf lets the virtual one be
pub record AreRowsOfPages (t : Turn) (leaf : List Atom) (ls ss : List EntryRow) (accesses : Accesses) : Type 0 where
  pub pages : HasPages t leaf (is_in accesses.pages)
  pub loads : AreRows t (is_in accesses.pages) ForLoad ls
  pub stores : AreRows t (is_in accesses.pages) ForStore ss

-- where the stand tells what loads and stores may do, the rows are those of its pages
abbrev pub AreRowsOf : Stand → Turn → List Atom → List EntryRow → List EntryRow → Type 0
AreRowsOf s t leaf loads stores = IfSome s.accesses (AreRowsOfPages t leaf loads stores)
