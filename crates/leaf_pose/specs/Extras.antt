-- What a bias adds to the problem of a leaf.
use Rattle.std.specs.Prelude.{◌≡◌, ℕ, Bool, false, ◌&&◌, ◌||◌, List, [], ◌∷◌, ◌++◌, Option, Some, None, IfSome}
use Rattle.std.specs.List.{list_any}
use Rattle.dom_set.specs.Elements.{is_in}
use Rattle.rv_script.specs.Folds.{Entry}
use Rattle.tpl_ast.specs.declared.template.Atom.{Atom}
use Rattle.tpl_ast.specs.declared.template.Var.TheVariants as vars
use Rattle.addr_rows.specs.Walks.{EntryRow}
use Rattle.fd_prob.specs.declared.problem.Assignment.{Assignment}
use Rattle.fd_prob.specs.declared.problem.Extra.{Extra}
use Rattle.fd_prob.specs.declared.problem.Problem.{Problem}
use Rattle.fd_prob.specs.declared.relation.Quad.{Quad}
use Rattle.fd_prob.specs.declared.relation.Rel.{Rel}
use Rattle.fd_prob.specs.declared.relation.Rel.TheVariants.{Rows}
use Rattle.fd_prob.specs.declared.slot.Slot.TheVariants as slots
use Rattle.fd_prob.specs.Order.{IsAssignment}
use Rattle.fd_prob.specs.Relations.{is_in_row, value_of}
use Rattle.data_ways.specs.declared.way.DataWay.{DataWay}
use Rattle.data_goals.specs.declared.accesses.Accesses.{Accesses}
use Rattle.data_goals.specs.Goals.{leads_to, way_in}
use Rattle.leaf_link.specs.Turns.{Turn}
use Rattle.leaf_link.specs.Cases.{all_judged, all_tests}
use Rattle.leaf_link.specs.KindLaws.{IsPosed}
use Rattle.leaf_link.specs.Extras.{ArePlain, IsExtraOf}
use Rattle.leaf_stand.specs.declared.shape.Shape.{Shape}
use Rattle.leaf_stand.specs.declared.stand.Stand.{Stand}
use Rattle.leaf_stand.specs.declared.way.Aim.TheVariants.{Anywhere}
use Rattle.leaf_stand.specs.Relations.{AddsTargets, atom_rels, speak_of}
use Rattle.leaf_stand.specs.DataRows.{AreRowsOf}
use Rattle.leaf_stand.specs.Stands.{IsStandOf, outcome_at, shape_at, turn_of}

-- a case of a shape stays where the step has what the atoms speak of, and its outcome passes
abbrev pub stays_at : Stand → List Atom → Shape → Bool
stays_at s bias shape = all_judged (shape_at shape) bias && all_tests (turn_of s) bias vars.Outcome (outcome_at shape.end)

abbrev pub stays_of : Stand → List Atom → List Shape → List Bool
stays_of s bias [] = []
stays_of s bias (shape ∷ shapes) = stays_at s bias shape ∷ stays_of s bias shapes

-- the address is one of a way's that leads where the test passes, and the new entries are the way's
abbrev pub leads_so : (ℕ → Bool) → ℕ → ℕ → ℕ → DataWay → Bool
leads_so test ea first second way = (way_in way ea && leads_to way.end test ea) && (is_in way.first first && is_in way.second second)

-- the values are in one of the rows
abbrev pub in_rows : Assignment → List Quad → Bool
in_rows x rows = list_any (is_in_row x) rows

-- the values are those of a way of the list that leads where the test passes
abbrev pub lead_so : (ℕ → Bool) → Assignment → List DataWay → Bool
lead_so test x ways = list_any (leads_so test (value_of x slots.Ea) (value_of x slots.FirstPte) (value_of x slots.SecondPte)) ways

-- a row came to others, or else they hold the same
abbrev pub AreJoined : Bool → Quad → List Quad → List Quad → Type 0
AreJoined joined row old new = (x : Assignment) → IsAssignment x → in_rows x new ≡ (in_rows x old || (joined && is_in_row x row))

-- the rows of ways came to others
abbrev pub AddsRows : (ℕ → Bool) → List DataWay → List Quad → List Quad → Type 0
AddsRows test ways old new = (x : Assignment) → IsAssignment x → in_rows x new ≡ (in_rows x old || lead_so test x ways)

-- the rows are those of the ways of loads and stores that lead where atoms let the physical address be
abbrev pub AreAddressRows : Stand → List Atom → List Quad → Accesses → Type 0
AreAddressRows s bias rows a = AddsRows (all_tests (turn_of s) bias vars.Pa) (a.loads.items ++ a.stores.items) [] rows

abbrev pub address_rel : Option (List Quad) → List Rel
address_rel None = []
address_rel (Some rows) = Rows rows ∷ []

abbrev pub AreRowsFor : Stand → List Atom → Option (List Quad) → Type 0
AreRowsFor s bias None = Unit {0}
AreRowsFor s bias (Some rows) = IfSome s.accesses (AreAddressRows s bias rows)

-- what atoms say of the physical address, where they say anything of it
pub record AddsAddress (s : Stand) (bias : List Atom) (old new : List Rel) : Type 0 where
  pub rows : Option (List Quad)
  pub are : AreRowsFor s bias rows
  pub none : rows ≡ None → speak_of bias vars.Pa ≡ false
  pub unsaid : speak_of bias vars.Pa ≡ false → rows ≡ None
  pub added : new ≡ old ++ address_rel rows

-- the relations of a bias: what it says of two variables, of the target and of the physical address
pub record AreBiasRelations (s : Stand) (bias : List Atom) (rels : List Rel) : Type 0 where
  pub first : List Rel
  pub targets : AddsTargets s bias (speak_of bias vars.Target) Anywhere (atom_rels bias) first
  pub address : AddsAddress s bias first rels

-- at every turn that the stand tells, the Extra is the bias over the problem of the leaf; whatever the rows of the addresses of loads and stores
abbrev pub AddsBias : Stand → List Atom → List Atom → Problem → Extra → Type 0
AddsBias s leaf bias p e =
    (t : Turn) (walk : List Entry) (pa : ℕ) (loads stores : List EntryRow) → IsStandOf s t walk pa → IsPosed t walk pa leaf → AreRowsOf s t leaf loads stores → ArePlain bias
    → IsExtraOf t bias e p
