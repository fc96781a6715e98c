-- The ways of goals are together those of the definition.
use Rattle.std.specs.Prelude.{◌≡◌, ℕ, ◌^◌, ◌<◌, ◌||◌, ◌==◌, Bool, true, false, List}
use Rattle.dom_set.specs.Elements.{is_in}
use Rattle.rv_isa.specs.declared.operation.Op.{Op}
use Rattle.rv_isa.specs.Table.{row_of}
use Rattle.rv_script.specs.Folds.{Entry}
use Rattle.sv_walk.specs.declared.entry.Kind.TheVariants.{Load as ForLoad, Store as ForStore}
use Rattle.addr_rows.specs.Walks.{EntryRow}
use Rattle.tpl_ast.specs.declared.template.Atom.{Atom}
use Rattle.fd_prob.specs.declared.slot.Slot.{Slot}
use Rattle.fd_prob.specs.declared.slot.Slot.TheVariants as slots
use Rattle.rv_mem.specs.Frames.{in_frames}
use Rattle.leaf_link.specs.Turns.{Turn}
use Rattle.rv_isa.specs.Fields.{has_address}
use Rattle.leaf_link.specs.Values.{Values}
use Rattle.leaf_link.specs.AllWays.{ways_of}
use Rattle.leaf_link.specs.Cases.{code_at, is_some_word}
use Rattle.leaf_link.specs.Reaching.{AreRows}
use Rattle.leaf_link.specs.Ways.{HasWay, IsFetched}
use Rattle.data_goals.specs.declared.accesses.Accesses.{Accesses}
use Rattle.data_goals.specs.Grounds.{HasAccesses}
use Rattle.data_goals.specs.Goals.{goal_ways}

abbrev pub AreSmall : Values → Type 0
AreSmall x = (slot : Slot) → x slot < 2 ^ 32

-- the fetched word is known, or may be started
abbrev pub has_code : Turn → ℕ → Bool
has_code t pa = is_some_word (code_at t pa) || in_frames t.pool pa

-- a load or store at a turn, of which this is known, over rows of the addresses of its pages; it ends so
pub record IsDataStep (t : Turn) (walk : List Entry) (pa : ℕ) (a : Accesses) (loads stores : List EntryRow) (op : Op) (x : Values) (outcome : ℕ) : Type 0 where
  pub accesses : HasAccesses t walk pa a
  pub fetched : IsFetched t walk pa
  pub code : has_code t pa ≡ true
  pub load_rows : AreRows t (is_in a.pages) ForLoad loads
  pub store_rows : AreRows t (is_in a.pages) ForStore stores
  pub addressed : has_address (row_of op) ≡ true
  pub small : AreSmall x
  -- an instruction that is refused has no address
  pub page : (outcome == 2) ≡ false → is_in a.pages (x slots.Ea) ≡ true

-- what fits a way of the step fits a goal, with the same end
abbrev pub WaysAreGoals : Type 0
WaysAreGoals =
    (t : Turn) (walk : List Entry) (pa : ℕ) (a : Accesses) (loads stores : List EntryRow) (leaf : List Atom) (op : Op) (x : Values) (outcome : ℕ) (reaches : Bool) → IsDataStep t walk pa a loads stores op x outcome
    → HasWay op (ways_of t walk pa leaf loads stores op) x outcome reaches → HasWay op (goal_ways t a leaf op) x outcome reaches

-- and the other way round
abbrev pub GoalsAreWays : Type 0
GoalsAreWays =
    (t : Turn) (walk : List Entry) (pa : ℕ) (a : Accesses) (loads stores : List EntryRow) (leaf : List Atom) (op : Op) (x : Values) (outcome : ℕ) (reaches : Bool) → IsDataStep t walk pa a loads stores op x outcome
    → HasWay op (goal_ways t a leaf op) x outcome reaches → HasWay op (ways_of t walk pa leaf loads stores op) x outcome reaches
