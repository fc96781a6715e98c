-- The ways of loads and stores, by where their addresses lead.
use Rattle.std.specs.Prelude.{◌≡◌, ℕ, ◌+◌, ◌%◌, ◌^◌, ◌<◌, Bool, true, false, not, ◌&&◌, ◌||◌, nat_eq, bit_and, if◌then◌else◌, List, [], ◌∷◌, ◌++◌, Option, Some, None}
use Rattle.dom_set.specs.Elements.{is_in}
use Rattle.rv_isa.specs.declared.operation.Op.{Op}
use Rattle.rv_isa.specs.Fields.{is_load}
use Rattle.rv_isa.specs.Table.{row_of}
use Rattle.rv_csr.specs.declared.cause.Cause.{Cause}
use Rattle.rv_csr.specs.declared.cause.Cause.TheVariants.{LoadMisaligned, StoreMisaligned}
use Rattle.rv_csr.specs.Causes.{number_of}
use Rattle.rv_hart.specs.Machine.{size_of}
use Rattle.tpl_ast.specs.declared.template.Atom.{Atom}
use Rattle.tpl_ast.specs.declared.template.Var.TheVariants as vars
use Rattle.fd_prob.specs.declared.slot.Slot.{Slot}
use Rattle.fd_prob.specs.declared.slot.Slot.TheVariants as slots
use Rattle.row_parts.specs.Gaps.{counts}
use Rattle.data_bytes.specs.declared.starts.DataAccess.{DataAccess}
use Rattle.data_bytes.specs.declared.starts.DataAccess.TheVariants.{Load, Store}
use Rattle.data_bytes.specs.Sets.{IsSetOf}
use Rattle.data_bytes.specs.Starts.{barred_of, is_open}
use Rattle.data_ways.specs.declared.way.DataEnd.{DataEnd}
use Rattle.data_ways.specs.declared.way.DataEnd.TheVariants as ends
use Rattle.data_ways.specs.declared.way.DataWay.{DataWay}
use Rattle.leaf_link.specs.Turns.{Turn}
use Rattle.leaf_link.specs.Cases.{Way, all_tests}
use Rattle.leaf_link.specs.Kinds.{always, is_vector}
use Rattle.data_goals.specs.declared.accesses.Accesses.{Accesses}
use Rattle.data_goals.specs.declared.cuts.AddressCuts.{AddressCuts}
use Rattle.data_goals.specs.declared.goal.Goal.{Goal}
use Rattle.data_goals.specs.declared.goal.Goal.TheVariants.{Misaligned, Fails, Known, Fresh}
use Rattle.data_goals.specs.declared.targets.Targets.{Targets}

-- the words in a set are those that pass a test, or all words pass it
abbrev pub IsCut : (ℕ → Bool) → Option (List ℕ) → Type 0
IsCut test None = (v : ℕ) → v < 2 ^ 32 → test v ≡ true
IsCut test (Some set) = IsSetOf test set

abbrev pub access_of : Op → DataAccess
access_of op = if is_load (row_of op) then Load else Store

-- where the addresses of a load or store lead
abbrev pub ways_for : Accesses → Op → List DataWay
ways_for a op = if is_load (row_of op) then a.loads.items else a.stores.items

-- a misaligned address leads nowhere
abbrev pub misses : DataWay
misses = record { ea = []; first = []; second = []; apart = false; end = ends.Fails LoadMisaligned }

-- the cause of its trap, and nothing where it retires (Unprivileged, 2.6; Privileged, 3.1.15)
abbrev pub cause_of : Op → DataEnd → Goal → Option Cause
cause_of op end Misaligned = Some (if is_load (row_of op) then LoadMisaligned else StoreMisaligned)
cause_of op (ends.Fails cause) Fails = Some cause
cause_of op (ends.At base mask) Fails = None
cause_of op end Known = None
cause_of op end Fresh = None

abbrev pub outcome_of : Option Cause → ℕ
outcome_of None = 255
outcome_of (Some cause) = number_of cause

abbrev pub retires : Option Cause → Bool
retires None = true
retires (Some cause) = false

-- WHAT A GOAL SAYS OF SINGLE VARIABLES
abbrev pub is_aligned_to : Op → ℕ → Bool
is_aligned_to op v = nat_eq (v % size_of op) 0

-- a wanted physical address in one of some words, at which the access races with nothing; a store does not go to what its fetch reads
abbrev pub target_test : Accesses → Op → (ℕ → Bool) → (ℕ → Bool) → ℕ → Bool
target_test a op words wanted p =
    ((words p && is_open (barred_of a.bytes (access_of op)) (size_of op) p) && wanted p) && (is_load (row_of op) || not (is_in a.walked p))

-- the targets of an operation, of those that are wanted
pub record AreTargets (a : Accesses) (op : Op) (wanted : ℕ → Bool) (targets : Targets) : Type 0 where
  pub known : IsSetOf (target_test a op (is_in a.bytes.known) wanted) targets.known
  pub fresh : IsSetOf (target_test a op (is_in a.bytes.fresh) wanted) targets.fresh

-- where an address leads
abbrev pub place_at : DataEnd → ℕ → ℕ
place_at (ends.At base mask) v = (base + bit_and v mask) % 2 ^ 32
place_at (ends.Fails cause) v = v

-- only what leads somewhere has a target
abbrev pub leads_to : DataEnd → (ℕ → Bool) → ℕ → Bool
leads_to (ends.At base mask) test v = test ((base + bit_and v mask) % 2 ^ 32)
leads_to (ends.Fails cause) test v = false

-- an address of a way
abbrev pub way_in : DataWay → ℕ → Bool
way_in way v = counts way.apart v && is_in way.ea v

abbrev pub address_test : Accesses → Op → DataWay → (ℕ → Bool) → Goal → ℕ → Bool
address_test a op way wanted Misaligned v = not (is_aligned_to op v)
address_test a op way wanted Fails v = way_in way v && is_aligned_to op v
address_test a op way wanted Known v = (way_in way v && is_aligned_to op v) && leads_to way.end (target_test a op (is_in a.bytes.known) wanted) v
address_test a op way wanted Fresh v = (way_in way v && is_aligned_to op v) && leads_to way.end (target_test a op (is_in a.bytes.fresh) wanted) v

-- what a goal says of an address but for its two indices and for where it leads
abbrev pub own_test : Op → DataWay → Goal → ℕ → Bool
own_test op way Misaligned v = not (is_aligned_to op v)
own_test op way goal v = is_in way.ea v && is_aligned_to op v

-- what it says of the two indices of an address
abbrev pub apart_test : DataWay → Goal → ℕ → Bool
apart_test way Misaligned v = true
apart_test way goal v = counts way.apart v

-- and what it says of where the address leads
abbrev pub there_test : Accesses → Op → DataWay → (ℕ → Bool) → Goal → ℕ → Bool
there_test a op way wanted Misaligned v = true
there_test a op way wanted Fails v = true
there_test a op way wanted Known v = leads_to way.end (target_test a op (is_in a.bytes.known) wanted) v
there_test a op way wanted Fresh v = leads_to way.end (target_test a op (is_in a.bytes.fresh) wanted) v

-- what it says of the indices and of where the address leads, as sets of addresses
pub record AreAddressCuts (a : Accesses) (op : Op) (way : DataWay) (wanted : ℕ → Bool) (goal : Goal) (place : AddressCuts) : Type 0 where
  pub apart : IsCut (apart_test way goal) place.apart
  pub leads : IsCut (there_test a op way wanted goal) place.leads

-- only a word that is started has a value of its own
abbrev pub word_test : Goal → ℕ → Bool
word_test Fresh v = true
word_test goal v = nat_eq v 0

-- and so have the entries of the way
abbrev pub entry_test : Goal → List ℕ → ℕ → Bool
entry_test Misaligned entries v = nat_eq v 0
entry_test goal entries v = is_in entries v

abbrev pub goal_test : Accesses → Op → DataWay → (ℕ → Bool) → Goal → Slot → ℕ → Bool
goal_test a op way wanted goal slots.Ea v = address_test a op way wanted goal v
goal_test a op way wanted goal slots.FirstPte v = entry_test goal way.first v
goal_test a op way wanted goal slots.SecondPte v = entry_test goal way.second v
goal_test a op way wanted goal slots.DataWord v = word_test goal v
goal_test a op way wanted goal _ v = true

-- the same, but for the two indices of the address and where it leads
abbrev pub near_test : Op → DataWay → Goal → Slot → ℕ → Bool
near_test op way goal slots.Ea v = own_test op way goal v
near_test op way goal slots.FirstPte v = entry_test goal way.first v
near_test op way goal slots.SecondPte v = entry_test goal way.second v
near_test op way goal slots.DataWord v = word_test goal v
near_test op way goal _ v = true

-- no CSR is read, and nothing but the vector of a trap is started beside what the goal says
abbrev pub end_test : Turn → Option Cause → Slot → ℕ → Bool
end_test t cause slots.OldCsr v = nat_eq v 0
end_test t None slots.Vector v = nat_eq v 0
end_test t (Some cause) slots.Vector v = is_vector t cause v
end_test t cause _ v = true

-- THE WAYS OF GOALS
abbrev pub goal_way : Turn → Accesses → List Atom → Op → DataWay → Goal → Way
goal_way t a leaf op way goal = record {
  outcome = outcome_of (cause_of op way.end goal);
  reaches = retires (cause_of op way.end goal);
  also = λ slot v. end_test t (cause_of op way.end goal) slot v && goal_test a op way (all_tests t leaf vars.Pa) goal slot v;
  holds = always;
}

-- the same, but for the two indices of the address and where it leads
abbrev pub near_way : Turn → Op → DataWay → Goal → Way
near_way t op way goal = record {
  outcome = outcome_of (cause_of op way.end goal);
  reaches = retires (cause_of op way.end goal);
  also = λ slot v. end_test t (cause_of op way.end goal) slot v && near_test op way goal slot v;
  holds = always;
}

-- the goals of a way, by its end
abbrev pub goals_by : DataEnd → List Goal
goals_by (ends.At base mask) = Known ∷ Fresh ∷ []
goals_by (ends.Fails cause) = Fails ∷ []

abbrev pub ways_by : Turn → Accesses → List Atom → Op → DataWay → List Goal → List Way
ways_by t a leaf op way [] = []
ways_by t a leaf op way (goal ∷ goals) = goal_way t a leaf op way goal ∷ ways_by t a leaf op way goals

abbrev pub ways_through : Turn → Accesses → List Atom → Op → List DataWay → List Way
ways_through t a leaf op [] = []
ways_through t a leaf op (way ∷ ways) = ways_by t a leaf op way (goals_by way.end) ++ ways_through t a leaf op ways

abbrev pub goal_ways : Turn → Accesses → List Atom → Op → List Way
goal_ways t a leaf op = goal_way t a leaf op misses Misaligned ∷ ways_through t a leaf op (ways_for a op)
