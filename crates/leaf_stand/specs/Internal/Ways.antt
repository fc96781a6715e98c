-- The ways of the code, by kinds of operations.
use Rattle.std.specs.Prelude.{◌≡◌, Bool, true, false, List, [], ◌∷◌, ◌++◌, if◌then◌else◌, Option, Some, None}
use Rattle.rv_isa.specs.declared.operation.Op.{Op}
use Rattle.rv_csr.specs.declared.cause.Cause.{Cause}
use Rattle.rv_csr.specs.declared.cause.Cause.TheVariants as causes
use Rattle.rv_csr.specs.declared.status.Flag.TheVariants.{Tsr, Tvm}
use Rattle.rv_csr.specs.declared.table.LazyRegister.{LazyRegister}
use Rattle.rv_csr.specs.declared.table.LazyRegister.TheVariants.{Mepc, Sepc}
use Rattle.rv_csr.specs.Privilege.{is_machine}
use Rattle.rv_hart.specs.Privileged.{call_cause, is_withheld}
use Rattle.tpl_ast.specs.declared.template.Atom.{Atom}
use Rattle.tpl_ast.specs.declared.template.Var.TheVariants as vars
use Rattle.leaf_link.specs.Cases.{Case, case_at, case_if, uses}
use Rattle.leaf_stand.specs.declared.kind.Kind.{Kind}
use Rattle.leaf_stand.specs.declared.kind.Kind.TheVariants as kinds
use Rattle.leaf_stand.specs.declared.shape.End.{End}
use Rattle.leaf_stand.specs.declared.shape.End.TheVariants.{Retires, Traps}
use Rattle.leaf_stand.specs.declared.shape.Shape.{Shape}
use Rattle.leaf_stand.specs.declared.stand.Stand.{Stand}
use Rattle.leaf_stand.specs.declared.way.Aim.TheVariants.{Anywhere, Aligned, Misaligned}
use Rattle.leaf_stand.specs.declared.way.Way.{Way}
use Rattle.leaf_stand.specs.Posed.{IsPartOf, is_posed_at}
use Rattle.leaf_stand.specs.Relations.{may_aim, may_steer, way_at}
use Rattle.leaf_stand.specs.Stands.{shape_at, turn_of}

abbrev pub shape_with : Op → End → Shape
shape_with op end = record { op = op; end = end; reaches = false }

abbrev pub retiring : Way
retiring = record { end = Retires; taken = None; aim = Anywhere; reads = None }

abbrev pub trapping : Cause → Way
trapping cause = record { end = Traps cause; taken = None; aim = Anywhere; reads = None }

-- a jump, or a branch that is taken, retires at a multiple of 4
abbrev pub going : Option Bool → Way
going taken = record { end = Retires; taken = taken; aim = Aligned; reads = None }

-- and traps at what is no multiple of 4
abbrev pub missing : Option Bool → Way
missing taken = record { end = Traps causes.FetchMisaligned; taken = taken; aim = Misaligned; reads = None }

abbrev pub staying : Way
staying = record { end = Retires; taken = Some false; aim = Anywhere; reads = None }

-- a return goes to where a CSR leads
abbrev pub returning : LazyRegister → Way
returning register = record { end = Retires; taken = None; aim = Anywhere; reads = Some register }

abbrev pub ways_by : Stand → Kind → List Way
ways_by s kinds.Plain = retiring ∷ []
ways_by s kinds.Branch = going (Some true) ∷ staying ∷ missing (Some true) ∷ []
ways_by s kinds.Jump = going None ∷ missing None ∷ []
ways_by s kinds.JumpRegister = going None ∷ missing None ∷ []
ways_by s kinds.Call = trapping (call_cause s.privilege) ∷ []
ways_by s kinds.Break = trapping causes.Breakpoint ∷ []
ways_by s kinds.Illegal = trapping causes.Illegal ∷ []
ways_by s kinds.AddressFence = if is_withheld Tvm (turn_of s).fixed then trapping causes.Illegal ∷ [] else retiring ∷ []
ways_by s kinds.MachineReturn = if is_machine s.privilege then returning Mepc ∷ [] else trapping causes.Illegal ∷ []
ways_by s kinds.SupervisorReturn = if is_withheld Tsr (turn_of s).fixed then trapping causes.Illegal ∷ [] else returning Sepc ∷ []
ways_by s kinds.Csr = []
ways_by s kinds.Data = []

-- the way is one of the operation's
pub record IsWayOf (s : Stand) (op : Op) (way : Way) : Type 0 where
  pub steered : may_steer op way.taken ≡ true
  pub aimed : may_aim (uses (shape_at (shape_with op way.end)) vars.Target) way.aim ≡ true
  pub part : IsPartOf s op way

abbrev pub AreWaysOf : Stand → Op → List Way → Type 0
AreWaysOf s op [] = Unit {0}
AreWaysOf s op (way ∷ ways) = IsWayOf s op way × AreWaysOf s op ways

-- the case of a way, where it is posed
abbrev pub way_case : Stand → List Atom → Op → Way → List Case
way_case s leaf op way = case_if (is_posed_at s leaf (shape_at (shape_with op way.end))) (case_at (turn_of s) 0 leaf op (way_at s op way)) []

abbrev pub way_cases : Stand → List Atom → Op → List Way → List Case
way_cases s leaf op [] = []
way_cases s leaf op (way ∷ ways) = way_case s leaf op way ++ way_cases s leaf op ways
