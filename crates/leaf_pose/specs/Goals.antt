-- The cases of loads and stores: one for each goal of each way.
use Rattle.std.specs.Prelude.{◌≡◌, ℕ, Bool, true, false, List, [], ◌∷◌, ◌++◌, Option, Some, None}
use Rattle.rv_isa.specs.declared.operation.Op.{Op}
use Rattle.rv_csr.specs.declared.cause.Cause.{Cause}
use Rattle.rv_script.specs.Lists.{HasItem}
use Rattle.tpl_ast.specs.declared.template.Atom.{Atom}
use Rattle.tpl_ast.specs.declared.template.Var.TheVariants as vars
use Rattle.fd_prob.specs.declared.relation.Rel.{Rel}
use Rattle.fd_prob.specs.declared.relation.Rel.TheVariants.{Sum, In}
use Rattle.fd_prob.specs.declared.slot.Slot.{Slot}
use Rattle.fd_prob.specs.declared.slot.Slot.TheVariants as slots
use Rattle.data_ways.specs.declared.way.DataEnd.{DataEnd}
use Rattle.data_ways.specs.declared.way.DataWay.{DataWay}
use Rattle.data_goals.specs.declared.accesses.Accesses.{Accesses}
use Rattle.data_goals.specs.declared.cuts.AddressCuts.{AddressCuts}
use Rattle.data_goals.specs.declared.goal.Goal.{Goal}
use Rattle.data_goals.specs.declared.targets.Targets.{Targets}
use Rattle.data_goals.specs.Goals.{AreTargets, cause_of, goal_way, goal_ways, goals_by, near_way, retires}
use Rattle.leaf_link.specs.Turns.{Turn}
use Rattle.leaf_link.specs.Cases.{all_tests, domain, uses_address}
use Rattle.leaf_stand.specs.declared.shape.End.{End}
use Rattle.leaf_stand.specs.declared.shape.End.TheVariants.{Retires, Traps}
use Rattle.leaf_stand.specs.declared.shape.Shape.{Shape}
use Rattle.leaf_stand.specs.declared.stand.Stand.{Stand}
use Rattle.leaf_stand.specs.Relations.{atom_rels, source_rels}
use Rattle.leaf_stand.specs.Stands.{open_at, shape_at, turn_of}

abbrev pub end_by : Option Cause → End
end_by None = Retires
end_by (Some cause) = Traps cause

abbrev pub shape_by : Op → Option Cause → Shape
shape_by op cause = record { op = op; end = end_by cause; reaches = retires cause }

abbrev pub goal_shape : Op → DataEnd → Goal → Shape
goal_shape op end goal = shape_by op (cause_of op end goal)

-- the domain of a variable of a stand's step, where a data access may start page table entries and its word
abbrev pub entered_at : Turn → List Atom → Shape → Slot → ℕ → Bool
entered_at t leaf shape slots.FirstPte v = true
entered_at t leaf shape slots.SecondPte v = true
entered_at t leaf shape slots.DataWord v = true
entered_at t leaf shape slot v = open_at t leaf shape slot v

-- an address that matters is the base's and the immediate's sum
abbrev pub sum_rel : Bool → List Rel
sum_rel true = Sum slots.A slots.Imm slots.Ea ∷ []
sum_rel false = []

-- the relations: what the sources, the atoms and the sum say
abbrev pub goal_rels : Stand → List Atom → Shape → List Rel
goal_rels s leaf shape = (source_rels (shape_at shape) s.registers ++ atom_rels leaf) ++ sum_rel (uses_address (shape_at shape))

-- that an address is in a set, beside its domain
abbrev pub place_rel : Option (List ℕ) → List Rel
place_rel None = []
place_rel (Some set) = In slots.Ea set ∷ []

abbrev pub place_rels : AddressCuts → List Rel
place_rels place = place_rel place.apart ++ place_rel place.leads

-- the domain of a variable of a goal, but for the two indices of an address and where it leads
abbrev pub near_domain : Stand → List Atom → Op → DataWay → Goal → Slot → ℕ → Bool
near_domain s leaf op way goal slot v = domain (turn_of s) 0 leaf op (near_way (turn_of s) op way goal) slot v

-- the targets are those of a leaf's load or store, where a stand tells what they may do
pub record IsAimed (s : Stand) (leaf : List Atom) (op : Op) (a : Accesses) (targets : Targets) : Type 0 where
  pub accesses : s.accesses ≡ Some a
  pub targets_are : AreTargets a op (all_tests (turn_of s) leaf vars.Pa) targets

-- the goal of the way is one of the operation's
abbrev pub IsGoalOf : Stand → List Atom → Op → Accesses → DataWay → Goal → Type 0
IsGoalOf s leaf op a way goal = HasItem (goal_ways (turn_of s) a leaf op) (goal_way (turn_of s) a leaf op way goal)

abbrev pub AreGoalsOf : Stand → List Atom → Op → Accesses → DataWay → Type 0
AreGoalsOf s leaf op a way = (goal : Goal) → HasItem (goals_by way.end) goal → IsGoalOf s leaf op a way goal
