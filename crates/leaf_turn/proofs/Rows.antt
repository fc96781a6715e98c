-- The answers of leaves, over the rows that there are.
use Rattle.std.proofs.Common.{◌≡◌, ℕ, true, List, Option, Some, None, refl, sym, subst}
use Rattle.std.specs.Prelude.{IfSome}
use Rattle.dom_set.specs.Elements.{is_in}
use Rattle.sv_walk.specs.declared.entry.Kind.{Kind}
use Rattle.sv_walk.specs.declared.entry.Kind.TheVariants.{Load as ForLoad, Store as ForStore}
use Rattle.addr_rows.specs.Walks.{EntryRow}
use Rattle.tpl_ast.specs.declared.template.Atom.{Atom}
use Rattle.data_goals.specs.declared.accesses.Accesses.{Accesses}
use Rattle.foot_map.specs.declared.touch.Touch.{Touch}
use Rattle.tpl_ast.specs.declared.template.Template.{Template}
use Rattle.part_machine.specs.Whole.{Whole}
use Rattle.leaf_link.specs.Turns.{Turn}
use Rattle.turn_laws.specs.Given.{Setting, turn_at}
use Rattle.leaf_turn.specs.Grounds.{IsSettingOf}
use Rattle.leaf_link.specs.Reaching.{AreRows, HasPages}
use Rattle.leaf_stand.specs.DataRows.{AreRowsOfPages}

-- rows of all pages are those of some
some_pages : (t : Turn) (pages : ℕ → Rattle.std.proofs.Common.Bool) (kind : Kind) (rows : List EntryRow) → AreRows t (λ ea. true) kind rows → AreRows t pages kind rows
some_pages t pages kind rows all = record { sound = all.sound; complete = λ ea first second log end less page walks. all.complete ea first second log end less refl walks }

pub rows_of_pages : (o : Option Accesses) (t : Turn) (leaf : List Atom) (loads stores : List EntryRow) → AreRows t (λ ea. true) ForLoad loads → AreRows t (λ ea. true) ForStore stores → IfSome o (λ a. HasPages t leaf (is_in a.pages)) → IfSome o (AreRowsOfPages t leaf loads stores)
rows_of_pages None t leaf loads stores first second has = tt
rows_of_pages (Some a) t leaf loads stores first second has = record { pages = has; loads = some_pages t (is_in a.pages) ForLoad loads first; stores = some_pages t (is_in a.pages) ForStore stores second }

-- the pages that are told of a test are those of its turns
pub pages_of_stand : (t : Template) (o p : Option Accesses) (k : ℕ) (w : Whole) (l m : List Atom) → p ≡ o → l ≡ m → IfSome o (λ a. (s : Setting) (feet : List Touch) → IsSettingOf t s → HasPages (turn_at s feet k w) l (is_in a.pages))
    → (s : Setting) (feet : List Touch) → IsSettingOf t s → IfSome p (λ a. HasPages (turn_at s feet k w) m (is_in a.pages))
pages_of_stand t o p k w l m same leaf told s feet setting = subst (λ (x : Option Accesses). IfSome x (λ a. HasPages (turn_at s feet k w) m (is_in a.pages))) (sym same) (go o told)
  where
    go : (x : Option Accesses) → IfSome x (λ a. (u : Setting) (f : List Touch) → IsSettingOf t u → HasPages (turn_at u f k w) l (is_in a.pages)) → IfSome x (λ a. HasPages (turn_at s feet k w) m (is_in a.pages))
    go None h = tt
    go (Some a) h = subst (λ (n : List Atom). HasPages (turn_at s feet k w) n (is_in a.pages)) leaf (h s feet setting)
