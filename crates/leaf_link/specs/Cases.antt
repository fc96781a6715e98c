-- The problem that a leaf poses: cases of domains and of what has to hold.
use Rattle.std.specs.Prelude.{◌≡◌, ℕ, ◌+◌, ◌%◌, ◌^◌, ◌⊎◌, Bool, true, false, not, ◌&&◌, ◌||◌, ◌==◌, nat_eq, nat_lt, if◌then◌else◌, List, [], ◌∷◌, Option, Some, None}
use Rattle.std.specs.List.{list_all}
use Rattle.dom_set.specs.Elements.{is_in}
use Rattle.rv_isa.specs.declared.instruction.Instr.{Instr}
use Rattle.rv_isa.specs.declared.operation.Op.{Op}
use Rattle.rv_isa.specs.declared.table.Row.{Row}
use Rattle.rv_isa.specs.declared.table.Row.TheVariants.{R, I, Shift, S, B, U, J, Csr as CsrRow, CsrImmediate, FenceSets, AddressFence, Fixed as Whole, DefinedIllegal}
use Rattle.rv_isa.specs.Arithmetic.{is_branch, is_taken}
use Rattle.rv_isa.specs.Encoding.{sign_extended}
use Rattle.rv_isa.specs.Fields.{has_csr, has_imm, has_rd, has_rs1, has_rs2, is_jump, reads_rs1, reads_rs2, has_address}
use Rattle.rv_isa.specs.Reading.{decoded}
use Rattle.rv_isa.specs.Table.{row_of}
use Rattle.rv_script.specs.declared.place.Place.TheVariants.{Reg, Word}
use Rattle.rv_script.specs.Script.{Label.Fetched, Question.OfMemory}
use Rattle.rv_script.specs.Folds.{Entry}
use Rattle.rv_hart.specs.Machine.{even}
use Rattle.tpl_ast.specs.Leaves.{same_var}
use Rattle.tpl_ast.specs.declared.template.Atom.{Atom}
use Rattle.tpl_ast.specs.declared.template.Atom.TheVariants as atoms
use Rattle.tpl_ast.specs.declared.template.Var.{Var}
use Rattle.tpl_ast.specs.declared.template.Var.TheVariants as vars
use Rattle.tpl_admit.specs.Truth.{is_shared}
use Rattle.tpl_admit.specs.Variables.{is_jalr}
use Rattle.fd_prob.specs.declared.slot.Slot.{Slot}
use Rattle.fd_prob.specs.declared.slot.Slot.TheVariants as slots
use Rattle.rv_mem.specs.Frames.{in_frames}
use Rattle.leaf_link.specs.Turns.{Turn, is_free_entry, may_be_source}
use Rattle.leaf_link.specs.Values.{Values, instr_in}
use Rattle.rv_isa.specs.Numbers.{op_number}

-- WHAT A STEP USES, by its operation and its outcome, and whether it makes a data access

pub record Shape : Type 0 where
  pub op : Op
  pub outcome : ℕ
  pub reaches : Bool

-- an instruction that is refused needs no register
abbrev pub uses_rs1 : Shape → Bool
uses_rs1 s = reads_rs1 (row_of s.op) && not (s.outcome == 2)

abbrev pub uses_rs2 : Shape → Bool
uses_rs2 s = reads_rs2 (row_of s.op) && not (s.outcome == 2)

abbrev pub uses_address : Shape → Bool
uses_address s = has_address (row_of s.op) && uses_rs1 s

-- its target rests on the pc alone
abbrev pub is_relative : Op → Bool
is_relative op = is_branch op || is_jump (row_of op)

abbrev pub uses : Shape → Var → Bool
uses s vars.Op = true
uses s vars.Rs1 = has_rs1 (row_of s.op)
uses s vars.Rs2 = has_rs2 (row_of s.op)
uses s vars.Rd = has_rd (row_of s.op)
uses s vars.Imm = has_imm (row_of s.op)
uses s vars.Csr = has_csr (row_of s.op)
uses s vars.Ea = uses_address s
uses s vars.A = uses_rs1 s
uses s vars.B = uses_rs2 s
uses s vars.Pa = s.reaches
uses s vars.Target = is_relative s.op || (is_jalr s.op && uses_rs1 s)
uses s vars.Outcome = true

abbrev pub uses_condition : Shape → Bool
uses_condition s = is_branch s.op && (uses_rs1 s && uses_rs2 s)

abbrev pub target_at : Op → ℕ → Values → ℕ
target_at op pc x = if is_relative op then (pc + x slots.Imm) % 2 ^ 32 else even ((x slots.A + x slots.Imm) % 2 ^ 32)

-- the values of the template's variables, of those that the step uses
abbrev pub value_at : Shape → ℕ → ℕ → Values → Var → ℕ
value_at s pc pa x vars.Op = op_number s.op
value_at s pc pa x vars.Rs1 = x slots.Rs1
value_at s pc pa x vars.Rs2 = x slots.Rs2
value_at s pc pa x vars.Rd = x slots.Rd
value_at s pc pa x vars.Imm = x slots.Imm
value_at s pc pa x vars.Csr = x slots.Csr
value_at s pc pa x vars.Ea = x slots.Ea
value_at s pc pa x vars.A = x slots.A
value_at s pc pa x vars.B = x slots.B
value_at s pc pa x vars.Pa = pa
value_at s pc pa x vars.Target = target_at s.op pc x
value_at s pc pa x vars.Outcome = s.outcome

-- ATOMS

-- a value is that of a bound name, or in the set of one that is not bound
abbrev pub is_value_named : Option ℕ → List ℕ → ℕ → Bool
is_value_named (Some n) set v = v == n
is_value_named None set v = is_in set v

-- what an atom says of the value of one variable
abbrev pub tests : Turn → Atom → Var → ℕ → Bool
tests t (atoms.In w set) u v = if same_var w u then is_in set v else true
tests t (atoms.NotIn w set) u v = if same_var w u then not (is_in set v) else true
tests t (atoms.Is w name) u v = if same_var w u then is_value_named (t.names name) (t.sets name) v else true
tests t (atoms.Same w y) u v = true
tests t (atoms.Differ w y) u v = true
tests t atoms.Taken u v = true
tests t atoms.NotTaken u v = true
tests t atoms.Shared u v = if same_var vars.Pa u then is_shared t.others (Some v) else true

abbrev pub all_tests : Turn → List Atom → Var → ℕ → Bool
all_tests t [] u v = true
all_tests t (atom ∷ leaf) u v = tests t atom u v && all_tests t leaf u v

-- the sources of a turn are the domain of a under these atoms, the mandatory ones of the leaf
abbrev pub HasSources : Turn → List Atom → Type 0
HasSources t leaf = (v : ℕ) → t.sources v ≡ all_tests t leaf vars.A v

-- the step has what an atom speaks of
abbrev pub is_judged : Shape → Atom → Bool
is_judged s (atoms.In w set) = uses s w
is_judged s (atoms.NotIn w set) = uses s w
is_judged s (atoms.Is w name) = uses s w
is_judged s (atoms.Same w u) = uses s w && uses s u
is_judged s (atoms.Differ w u) = uses s w && uses s u
is_judged s atoms.Taken = uses_condition s
is_judged s atoms.NotTaken = uses_condition s
is_judged s atoms.Shared = s.reaches

abbrev pub all_judged : Shape → List Atom → Bool
all_judged s [] = true
all_judged s (atom ∷ leaf) = is_judged s atom && all_judged s leaf

-- what an atom says of the values of two variables
abbrev pub relates : Op → (Var → ℕ) → Atom → Bool
relates op value (atoms.In w set) = true
relates op value (atoms.NotIn w set) = true
relates op value (atoms.Is w name) = true
relates op value (atoms.Same w u) = value w == value u
relates op value (atoms.Differ w u) = not (value w == value u)
relates op value atoms.Taken = is_taken op (value vars.A) (value vars.B)
relates op value atoms.NotTaken = not (is_taken op (value vars.A) (value vars.B))
relates op value atoms.Shared = true

abbrev pub all_relate : Op → (Var → ℕ) → List Atom → Bool
all_relate op value [] = true
all_relate op value (atom ∷ leaf) = relates op value atom && all_relate op value leaf

-- DOMAINS

-- a variable that is not used is 0
abbrev pub or_no : Bool → Bool → ℕ → Bool
or_no true inside v = inside
or_no false inside v = nat_eq v 0

abbrev pub unless : Bool → Bool → Bool
unless true test = test
unless false test = true

-- the immediates of a format
abbrev pub is_imm : Row → ℕ → Bool
is_imm (R opcode funct3 funct7) v = nat_eq v 0
is_imm (I opcode funct3) v = nat_eq v (sign_extended 12 (v % 2 ^ 12))
is_imm (S opcode funct3) v = nat_eq v (sign_extended 12 (v % 2 ^ 12))
is_imm (B opcode funct3) v = nat_eq v (sign_extended 13 (v % 2 ^ 13)) && nat_eq (v % 2) 0
is_imm (U opcode) v = nat_lt v (2 ^ 32) && nat_eq (v % 2 ^ 12) 0
is_imm (J opcode) v = nat_eq v (sign_extended 21 (v % 2 ^ 21)) && nat_eq (v % 2) 0
is_imm (Shift opcode funct3 funct7) v = nat_lt v 32
is_imm (CsrRow opcode funct3) v = nat_eq v 0
is_imm (CsrImmediate opcode funct3) v = nat_lt v 32
is_imm (FenceSets opcode funct3) v = nat_lt v (2 ^ 8)
is_imm (AddressFence opcode funct3 funct7) v = nat_eq v 0
is_imm (Whole bits) v = nat_eq v 0
is_imm DefinedIllegal v = nat_eq v 0 || nat_eq v 0xffff_ffff

abbrev pub field_of : Instr → Slot → ℕ
field_of i slots.Op = op_number i.op
field_of i slots.Rs1 = i.rs1
field_of i slots.Rs2 = i.rs2
field_of i slots.Imm = i.imm
field_of i slots.Rd = i.rd
field_of i slots.Csr = i.csr
field_of i _ = 0

abbrev pub in_format : Op → Slot → ℕ → Bool
in_format op slots.Op v = nat_eq v (op_number op)
in_format op slots.Rs1 v = or_no (has_rs1 (row_of op)) (nat_lt v 32) v
in_format op slots.Rs2 v = or_no (has_rs2 (row_of op)) (nat_lt v 32) v
in_format op slots.Imm v = is_imm (row_of op) v
in_format op slots.Rd v = or_no (has_rd (row_of op)) (nat_lt v 32) v
in_format op slots.Csr v = or_no (has_csr (row_of op)) (nat_lt v (2 ^ 12)) v
in_format op _ v = nat_eq v 0

abbrev pub in_read : Option Instr → Slot → ℕ → Bool
in_read None s v = false
in_read (Some i) s v = nat_eq (field_of i s) v

-- the fields are those of the word at the pc, where it is known, or any of the format
abbrev pub in_word : Option ℕ → Op → Slot → ℕ → Bool
in_word None op s v = in_format op s v
in_word (Some w) op s v = in_read (decoded w) s v

-- the pc's word
abbrev pub code_at : Turn → ℕ → Option ℕ
code_at t pa = t.known (Word pa)

-- ONE WAY IN WHICH A STEP OF AN OPERATION MAY GO ON AFTER ITS SOURCES
pub record Way : Type 0 where
  pub outcome : ℕ
  -- it makes a data access
  pub reaches : Bool
  -- what it says of single variables, and of several
  pub also : Slot → ℕ → Bool
  pub holds : Values → Bool

abbrev pub shape_of : Op → Way → Shape
shape_of op way = record { op = op; outcome = way.outcome; reaches = way.reaches }

-- the domain of a variable by the instruction and the sources
abbrev pub base_domain : Turn → ℕ → List Atom → Shape → Slot → ℕ → Bool
base_domain t pa leaf s slots.Op v = in_word (code_at t pa) s.op slots.Op v && all_tests t leaf vars.Op v
base_domain t pa leaf s slots.Rs1 v = in_word (code_at t pa) s.op slots.Rs1 v && unless (uses s vars.Rs1) (all_tests t leaf vars.Rs1 v)
base_domain t pa leaf s slots.Rs2 v = in_word (code_at t pa) s.op slots.Rs2 v && unless (uses s vars.Rs2) (all_tests t leaf vars.Rs2 v)
base_domain t pa leaf s slots.Imm v = in_word (code_at t pa) s.op slots.Imm v && unless (uses s vars.Imm) (all_tests t leaf vars.Imm v)
base_domain t pa leaf s slots.Rd v = in_word (code_at t pa) s.op slots.Rd v && unless (uses s vars.Rd) (all_tests t leaf vars.Rd v)
base_domain t pa leaf s slots.Csr v = in_word (code_at t pa) s.op slots.Csr v && unless (uses s vars.Csr) (all_tests t leaf vars.Csr v)
base_domain t pa leaf s slots.Ea v = or_no (uses_address s) (nat_lt v (2 ^ 32) && all_tests t leaf vars.Ea v) v
base_domain t pa leaf s slots.A v = or_no (uses_rs1 s) (nat_lt v (2 ^ 32) && all_tests t leaf vars.A v) v
base_domain t pa leaf s slots.B v = or_no (uses_rs2 s) (nat_lt v (2 ^ 32) && all_tests t leaf vars.B v) v
base_domain t pa leaf s _ v = true

abbrev pub domain : Turn → ℕ → List Atom → Op → Way → Slot → ℕ → Bool
domain t pa leaf op way slot v = base_domain t pa leaf (shape_of op way) slot v && way.also slot v

abbrev pub is_some_word : Option ℕ → Bool
is_some_word None = false
is_some_word (Some v) = true

-- RELATIONS
-- where a register is known, the value is the known one
abbrev pub is_held : Option ℕ → ℕ → Bool
is_held None v = true
is_held (Some w) v = nat_eq w v

abbrev pub is_linked : Values → Bool
is_linked x = if nat_eq (x slots.Rs1) (x slots.Rs2) then nat_eq (x slots.A) (x slots.B) else true

-- what the sources say; an untouched register may not be the source of every write
abbrev pub sources_hold : Turn → Shape → Values → Bool
sources_hold t s x =
    unless (uses_rs1 s) (is_held (t.known (Reg (x slots.Rs1))) (x slots.A) && (is_some_word (t.known (Reg (x slots.Rs1))) || may_be_source t (instr_in x)))
    && (unless (uses_rs2 s) (is_held (t.known (Reg (x slots.Rs2))) (x slots.B))
    && (unless (uses_rs1 s && uses_rs2 s) (is_linked x)
    && unless (uses_address s) (nat_eq ((x slots.A + x slots.Imm) % 2 ^ 32) (x slots.Ea))))

-- what the atoms say of several variables and of the target
abbrev pub atoms_hold : Turn → List Atom → Shape → Values → Bool
atoms_hold t leaf s x = all_relate s.op (value_at s t.fixed.pc 0 x) leaf && unless (uses s vars.Target) (all_tests t leaf vars.Target (target_at s.op t.fixed.pc x))

pub record Case : Type 0 where
  pub op : ℕ
  pub doms : Slot → ℕ → Bool
  pub holds : Values → Bool

abbrev pub case_at : Turn → ℕ → List Atom → Op → Way → Case
case_at t pa leaf op way = record {
  op = op_number op;
  doms = domain t pa leaf op way;
  holds = λ x. sources_hold t (shape_of op way) x && (atoms_hold t leaf (shape_of op way) x && way.holds x);
}

-- THE CASES THAT ARE POSED
abbrev pub fetch_entry : Turn → ℕ → ℕ → Entry
fetch_entry t pa w = record { question = OfMemory Fetched pa 4; value = w }

-- the bytes that the fetch walks and reads race with nothing, and the word may be started if it is not known
abbrev pub may_fetch : Turn → List Entry → ℕ → Bool
may_fetch t walk pa = list_all (is_free_entry t) walk && (is_free_entry t (fetch_entry t pa 0) && (is_some_word (code_at t pa) || in_frames t.pool pa))

-- what does not rest on the values
abbrev pub is_posed : Turn → List Entry → ℕ → List Atom → Shape → Bool
is_posed t walk pa leaf s = may_fetch t walk pa && (all_judged s leaf && all_tests t leaf vars.Outcome s.outcome)

abbrev pub case_if : Bool → Case → List Case → List Case
case_if true c cs = c ∷ cs
case_if false c cs = cs

abbrev pub cases_of : Turn → List Entry → ℕ → List Atom → Op → List Way → List Case
cases_of t walk pa leaf op [] = []
cases_of t walk pa leaf op (way ∷ ways) = case_if (is_posed t walk pa leaf (shape_of op way)) (case_at t pa leaf op way) (cases_of t walk pa leaf op ways)

-- FITTING
pub record FitsCase (c : Case) (x : Values) : Type 0 where
  pub op : x slots.Op ≡ c.op
  pub each : (s : Slot) → c.doms s (x s) ≡ true
  pub holds : c.holds x ≡ true

abbrev pub Fits : List Case → Values → Type 0
Fits [] x = ⊥
Fits (c ∷ cs) x = FitsCase c x ⊎ Fits cs x
