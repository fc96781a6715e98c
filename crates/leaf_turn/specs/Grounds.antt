-- What a template lets steps start.
use Rattle.std.specs.Prelude.{◌≡◌, ℕ, ◌^◌, ◌<◌, ◌≤◌, length, Bool, not, ◌&&◌, nat_eq, List, [], Option, Some, None, slice_get, slice_index_or}
use Rattle.std.specs.List.{list_any}
use Rattle.dom_set.specs.Elements.{is_in}
use Rattle.rv_csr.specs.State.{CsrValues}
use Rattle.rv_script.specs.declared.access.Role.TheVariants.{Fetch}
use Rattle.rv_script.specs.Bytes.{covers}
use Rattle.foot_map.specs.declared.touch.Touch.{Touch}
use Rattle.foot_map.specs.Races.{breaks}
use Rattle.tpl_ast.specs.declared.template.NameDecl.{NameDecl}
use Rattle.tpl_ast.specs.declared.template.Template.{Template}
use Rattle.tpl_ast.specs.Limits.{most_flags, most_pool, most_tables}
use Rattle.part_machine.specs.Whole.{Whole}
use Rattle.leaf_stand.specs.declared.stand.Name.{Name}
use Rattle.leaf_stand.specs.Stands.{set_named, value_named}
use Rattle.turn_laws.specs.Given.{Setting}

-- the set of a declared name
abbrev pub declared_set : Option NameDecl → List ℕ
declared_set None = []
declared_set (Some declared) = declared.set

-- a template's names with the values that they have in a test
pub record AreNamesOf (t : Template) (w : Whole) (names : List Name) : Type 0 where
  pub values : (n : ℕ) → slice_index_or w.names n None ≡ value_named (slice_get names n)
  pub sets : (n : ℕ) → declared_set (slice_get t.names n) ≡ set_named (slice_get names n)

-- what a template lets a step start, and the sets of its names; what a source may be started with is said of each leaf apart
pub record IsSettingOf (t : Template) (s : Setting) : Type 0 where
  pub pool : s.pool ≡ t.pool
  pub tables : s.tables ≡ t.tables
  pub flags : s.flags ≡ t.flags
  pub vectors : s.vectors ≡ t.vectors
  pub sets : (n : ℕ) → s.sets n ≡ declared_set (slice_get t.names n)

-- the template keeps the limits on frames and on flag bytes of entries
pub record HasFewForms (t : Template) : Type 0 where
  pub tables : length t.tables ≤ most_tables
  pub pool : length t.pool ≤ most_pool
  pub flags : length t.flags ≤ most_flags

-- a fetch of a hart from an address races with none of the touches
abbrev pub is_free_fetch : List Touch → ℕ → ℕ → Bool
is_free_fetch touches hart addr = not (list_any (λ touch. covers (record { role = Fetch; addr = addr; size = 4; value = 0 }) touch.byte && breaks (nat_eq touch.hart hart) touch.role Fetch) touches)

-- the CSRs that are always known, and mhartid, are words
pub record AreFixedWords (csrs : CsrValues) : Type 0 where
  pub mstatus : csrs.mstatus < 2 ^ 32
  pub medeleg : csrs.medeleg < 2 ^ 32
  pub satp : csrs.satp < 2 ^ 32
  pub number : csrs.hart < 2 ^ 32

-- an untouched source may have just the words of the set
abbrev pub HasSourceSet : Setting → List ℕ → Type 0
HasSourceSet s set = (v : ℕ) → v < 2 ^ 32 → s.sources v ≡ is_in set v
