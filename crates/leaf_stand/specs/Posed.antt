-- Which operations are posed, the cases of a stand, and lists of cases that the same assignments fit.
use Rattle.std.specs.Prelude.{◌≡◌, ℕ, ◌↔◌, if◌then◌else◌, Bool, true, false, ◌&&◌, ◌||◌, ◌==◌, not, List, [], ◌∷◌, ◌++◌, Option, Some, None}
use Rattle.std.specs.List.{list_all, list_any}
use Rattle.std.specs.Option.{is_some}
use Rattle.data_goals.specs.declared.accesses.Accesses.{Accesses}
use Rattle.data_goals.specs.Goals.{goal_ways}
use Rattle.rv_isa.specs.declared.instruction.Instr.{Instr}
use Rattle.rv_isa.specs.declared.operation.Op.{Op}
use Rattle.rv_isa.specs.declared.operation.TheConstants.{OPS}
use Rattle.rv_isa.specs.Reading.{decoded}
use Rattle.rv_script.specs.Lists.{HasItem}
use Rattle.tpl_ast.specs.declared.template.Atom.{Atom}
use Rattle.tpl_ast.specs.declared.template.Var.TheVariants as vars
use Rattle.fd_prob.specs.declared.problem.Assignment.{Assignment}
use Rattle.fd_prob.specs.declared.problem.Case.{Case as ACase}
use Rattle.fd_prob.specs.declared.slot.Slot.{Slot}
use Rattle.fd_prob.specs.Fitting.{fits_case}
use Rattle.fd_prob.specs.Order.{IsAssignment}
use Rattle.leaf_link.specs.Values.{Values}
use Rattle.rv_isa.specs.Numbers.{op_number}
use Rattle.leaf_link.specs.Cases.{Case, Fits, Shape as AShape, Way as AWay, all_judged, all_tests, case_at, case_if, shape_of}
use Rattle.leaf_link.specs.Answers.{values_in}
use Rattle.leaf_link.specs.AllWays.{ways_of}
use Rattle.leaf_stand.specs.declared.kind.Kind.{Kind}
use Rattle.leaf_stand.specs.declared.kind.Kind.TheVariants.{Csr, Data}
use Rattle.leaf_stand.specs.declared.stand.Stand.{Stand}
use Rattle.leaf_stand.specs.declared.way.Way.{Way}
use Rattle.leaf_stand.specs.Kinds.{kind_of}
use Rattle.leaf_stand.specs.Relations.{way_at}
use Rattle.leaf_stand.specs.Stands.{outcome_at, turn_of}

-- WHICH OPERATIONS ARE POSED
-- a known word is an instruction of the operation
abbrev pub is_read_as : Option Instr → Op → Bool
is_read_as None op = false
is_read_as (Some i) op = op_number i.op == op_number op

abbrev pub reads_as : Option ℕ → Op → Bool
reads_as None op = true
reads_as (Some word) op = is_read_as (decoded word) op

-- the atoms and a known word allow the operation
abbrev pub allows : Stand → List Atom → Op → Bool
allows s leaf op = reads_as s.word op && all_tests (turn_of s) leaf vars.Op (op_number op)

abbrev pub is_data : Kind → Bool
is_data Data = true
is_data kind = false

-- the ways of its steps rest on neither registers nor memory, so that they stand in a list
abbrev pub is_listed : Kind → Bool
is_listed Csr = false
is_listed Data = false
is_listed kind = true

-- a load or store can be posed where it is told what they may do
abbrev pub has_accesses : Stand → Bool
has_accesses s = is_some s.accesses

-- the operation can be posed, or is not allowed
abbrev pub is_posable : Stand → List Atom → Op → Bool
is_posable s leaf op = (not (is_data (kind_of op)) || has_accesses s) || not (allows s leaf op)

-- no operation is allowed but those that can be posed
abbrev pub are_posable : Stand → List Atom → Bool
are_posable s leaf = list_all (is_posable s leaf) OPS

-- CASES
-- what does not rest on the values holds
abbrev pub is_posed_at : Stand → List Atom → AShape → Bool
is_posed_at s leaf shape = s.fetches && (all_judged shape leaf && all_tests (turn_of s) leaf vars.Outcome shape.outcome)

-- the cases of an operation's ways, at the stand's own turn
abbrev pub stand_cases : Stand → List Atom → Op → List AWay → List Case
stand_cases s leaf op [] = []
stand_cases s leaf op (way ∷ ways) = case_if (is_posed_at s leaf (shape_of op way)) (case_at (turn_of s) 0 leaf op way) (stand_cases s leaf op ways)

-- no way of an operation without a data access rests on walks or rows
abbrev pub stand_ways : Stand → Op → List AWay
stand_ways s op = ways_of (turn_of s) [] 0 [] [] [] op

-- those of a load or store are its goals
abbrev pub data_ways : Stand → List Atom → Op → Option Accesses → List AWay
data_ways s leaf op None = []
data_ways s leaf op (Some accesses) = goal_ways (turn_of s) accesses leaf op

abbrev pub ways_at : Stand → List Atom → Op → List AWay
ways_at s leaf op = if is_data (kind_of op) then data_ways s leaf op s.accesses else stand_ways s op

abbrev pub all_cases : Stand → List Atom → List Op → List Case
all_cases s leaf [] = []
all_cases s leaf (op ∷ ops) = stand_cases s leaf op (ways_at s leaf op) ++ all_cases s leaf ops

-- LISTS OF CASES
-- the same assignments fit the cases of a problem and those of the definition
abbrev pub FitsSame : List ACase → List Case → Type 0
FitsSame cs ds = (x : Assignment) → IsAssignment x → (list_any (fits_case x) cs ≡ true) ↔ Fits ds (values_in x)

-- WHERE WHAT FITS A CASE COMES FROM
-- a way of the definition that holds wherever the code's way does
pub record IsPartOf (s : Stand) (op : Op) (way : Way) : Type 0 where
  pub whole : AWay
  pub is : HasItem (stand_ways s op) whole
  pub outcome : whole.outcome ≡ outcome_at way.end
  pub reaches : whole.reaches ≡ false
  pub also : (slot : Slot) (v : ℕ) → (way_at s op way).also slot v ≡ true → whole.also slot v ≡ true
  pub holds : (x : Values) → ((slot : Slot) → (way_at s op way).also slot (x slot) ≡ true) → (way_at s op way).holds x ≡ true → whole.holds x ≡ true
