-- The relations of a case.
use Rattle.std.specs.Prelude.{◌≡◌, ℕ, Bool, true, false, ◌&&◌, ◌||◌, not, List, [], ◌∷◌, ◌++◌, Option, Some, None}
use Rattle.rv_isa.specs.declared.operation.Op.{Op}
use Rattle.rv_isa.specs.Arithmetic.{is_branch, is_taken}
use Rattle.tpl_ast.specs.declared.template.Atom.{Atom}
use Rattle.tpl_ast.specs.declared.template.Atom.TheVariants as atoms
use Rattle.tpl_ast.specs.declared.template.Var.{Var}
use Rattle.tpl_ast.specs.declared.template.Var.TheVariants as vars
use Rattle.tpl_ast.specs.Leaves.{same_var}
use Rattle.fd_prob.specs.declared.relation.Rel.{Rel}
use Rattle.fd_prob.specs.declared.relation.Rel.TheVariants as rels
use Rattle.fd_prob.specs.declared.slot.Slot.{Slot}
use Rattle.fd_prob.specs.declared.slot.Slot.TheVariants as slots
use Rattle.leaf_link.specs.Values.{Values}
use Rattle.leaf_link.specs.Cases.{Shape as AShape, Way as AWay, all_tests, target_at, unless, uses, uses_rs1, uses_rs2}
use Rattle.leaf_link.specs.Kinds.{is_target}
use Rattle.leaf_stand.specs.declared.shape.Shape.{Shape}
use Rattle.leaf_stand.specs.declared.stand.Stand.{Stand}
use Rattle.leaf_stand.specs.declared.way.Aim.{Aim}
use Rattle.leaf_stand.specs.declared.way.Aim.TheVariants.{Anywhere, Aligned, Misaligned}
use Rattle.leaf_stand.specs.declared.way.Way.{Way}
use Rattle.data_goals.specs.Goals.{IsCut}
use Rattle.leaf_stand.specs.Stands.{also_by, outcome_at, shape_at, turn_of}

-- ATOMS
-- the variable of problems that stands for one of atoms
abbrev pub slot_of : Var → Option Slot
slot_of vars.Op = Some slots.Op
slot_of vars.Rs1 = Some slots.Rs1
slot_of vars.Rs2 = Some slots.Rs2
slot_of vars.Imm = Some slots.Imm
slot_of vars.Rd = Some slots.Rd
slot_of vars.Csr = Some slots.Csr
slot_of vars.Ea = Some slots.Ea
slot_of vars.A = Some slots.A
slot_of vars.B = Some slots.B
slot_of vars.Pa = None
slot_of vars.Target = None
slot_of vars.Outcome = None

-- an atom between two variables is between variables of problems
abbrev pub has_slot : Option Slot → Bool
has_slot None = false
has_slot (Some s) = true

abbrev pub is_between : Atom → Bool
is_between (atoms.Same w u) = has_slot (slot_of w) && has_slot (slot_of u)
is_between (atoms.Differ w u) = has_slot (slot_of w) && has_slot (slot_of u)
is_between atom = true

abbrev pub are_between : List Atom → Bool
are_between [] = true
are_between (atom ∷ leaf) = is_between atom && are_between leaf

-- an atom is about the value of a variable alone
abbrev pub speaks_of : Atom → Var → Bool
speaks_of (atoms.In w set) u = same_var w u
speaks_of (atoms.NotIn w set) u = same_var w u
speaks_of (atoms.Is w name) u = same_var w u
speaks_of atoms.Shared u = same_var vars.Pa u
speaks_of atom u = false

abbrev pub speak_of : List Atom → Var → Bool
speak_of [] u = false
speak_of (atom ∷ leaf) u = speaks_of atom u || speak_of leaf u

abbrev pub same_rel : Option Slot → Option Slot → List Rel
same_rel (Some s) (Some t) = rels.Same s t ∷ []
same_rel (Some s) None = []
same_rel None t = []

abbrev pub differ_rel : Option Slot → Option Slot → List Rel
differ_rel (Some s) (Some t) = rels.Differ s t ∷ []
differ_rel (Some s) None = []
differ_rel None t = []

-- what an atom says of two variables
abbrev pub atom_rel : Atom → List Rel
atom_rel (atoms.In w set) = []
atom_rel (atoms.NotIn w set) = []
atom_rel (atoms.Is w name) = []
atom_rel (atoms.Same w u) = same_rel (slot_of w) (slot_of u)
atom_rel (atoms.Differ w u) = differ_rel (slot_of w) (slot_of u)
atom_rel atoms.Taken = rels.Taken true ∷ []
atom_rel atoms.NotTaken = rels.Taken false ∷ []
atom_rel atoms.Shared = []

abbrev pub atom_rels : List Atom → List Rel
atom_rels [] = []
atom_rels (atom ∷ leaf) = atom_rel atom ++ atom_rels leaf

-- SOURCES
-- a register's known value, where it is used
abbrev pub held_rel : Bool → Slot → Slot → List (Option ℕ) → List Rel
held_rel true index value registers = rels.Holds index value registers ∷ []
held_rel false index value registers = []

abbrev pub linked_rel : Bool → List Rel
linked_rel true = rels.Linked ∷ []
linked_rel false = []

-- what the source registers say
abbrev pub source_rels : AShape → List (Option ℕ) → List Rel
source_rels s registers = held_rel (uses_rs1 s) slots.Rs1 slots.A registers ++ (held_rel (uses_rs2 s) slots.Rs2 slots.B registers ++ linked_rel (uses_rs1 s && uses_rs2 s))

-- WAYS
-- of a branch, whether it is taken
abbrev pub is_steered : Op → Option Bool → Values → Bool
is_steered op None x = true
is_steered op (Some true) x = is_taken op (x slots.A) (x slots.B)
is_steered op (Some false) x = not (is_taken op (x slots.A) (x slots.B))

abbrev pub is_anywhere : Aim → Bool
is_anywhere Anywhere = true
is_anywhere aim = false

abbrev pub is_aimed : Aim → ℕ → Bool
is_aimed Anywhere target = true
is_aimed Aligned target = is_target target
is_aimed Misaligned target = not (is_target target)

-- a way of the code, as the definitions have it
abbrev pub way_at : Stand → Op → Way → AWay
way_at s op way = record {
  outcome = outcome_at way.end;
  reaches = false;
  also = also_by (turn_of s) way.end way.reads;
  holds = λ x. is_steered op way.taken x && is_aimed way.aim (target_at op s.pc x);
}

-- only a branch is taken or not
abbrev pub may_steer : Op → Option Bool → Bool
may_steer op None = true
may_steer op (Some taken) = is_branch op

-- only what has a target goes somewhere
abbrev pub may_aim : Bool → Aim → Bool
may_aim used Anywhere = true
may_aim used Aligned = used
may_aim used Misaligned = used

abbrev pub taken_rel : Option Bool → List Rel
taken_rel None = []
taken_rel (Some taken) = rels.Taken taken ∷ []

-- the targets are in a set, or nothing is asked of them
abbrev pub target_rel : ℕ → Option (List ℕ) → List Rel
target_rel pc None = []
target_rel pc (Some set) = rels.Target pc set ∷ []

-- what a leaf and a way ask of the target
abbrev pub target_test : Stand → List Atom → Bool → Aim → ℕ → Bool
target_test s leaf used aim v = unless used (is_aimed aim v && all_tests (turn_of s) leaf vars.Target v)

pub record AddsTargets (s : Stand) (leaf : List Atom) (used : Bool) (aim : Aim) (old new : List Rel) : Type 0 where
  pub set : Option (List ℕ)
  pub is : IsCut (target_test s leaf used aim) set
  pub none : used ≡ false → set ≡ None
  pub added : new ≡ old ++ target_rel s.pc set

-- the relations of a case: those of its sources, of the atoms, of whether it is taken, and of its target
abbrev pub AreRelations : Stand → List Atom → Shape → Way → List Rel → Type 0
AreRelations s leaf shape way new =
    AddsTargets s leaf (uses (shape_at shape) vars.Target) way.aim ((source_rels (shape_at shape) s.registers ++ atom_rels leaf) ++ taken_rel way.taken) new
