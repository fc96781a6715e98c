-- The first cases of operations: the domains that count for the space of a leaf's problem and for the order of its candidates.
use Rattle.std.specs.Prelude.{◌≡◌, ℕ, ◌+◌, ◌*◌, ◌/◌, ◌^◌, ◌<◌, Bool, true, false, ◌&&◌, ◌||◌, ◌==◌, nat_eq, max, if◌then◌else◌, List, ◌∷◌, ◌++◌, length, map, filter, find, Option, Some, None, slice_index, ◌↔◌}
use Rattle.std.specs.List.{list_any}
use Rattle.dom_set.specs.Elements.{elements_of, is_in, numbers_below}
use Rattle.rv_isa.specs.declared.operation.Op.{Op}
use Rattle.rv_isa.specs.declared.operation.Op.TheVariants.{Mret, Sret}
use Rattle.rv_isa.specs.declared.operation.TheConstants.{OPS}
use Rattle.rv_isa.specs.declared.table.Row.{Row}
use Rattle.rv_isa.specs.declared.table.Row.TheVariants.{U, J, R, I, Shift, S, B, Csr as CsrRow, CsrImmediate, FenceSets, AddressFence, Fixed as Whole, DefinedIllegal}
use Rattle.rv_isa.specs.Fields.{has_csr, has_rs1, has_rs2, reads_rs1, reads_rs2, has_address}
use Rattle.rv_isa.specs.Reading.{decoded}
use Rattle.rv_isa.specs.Table.{row_of}
use Rattle.rv_csr.specs.Table.{address_of, registers}
use Rattle.rv_script.specs.Folds.{Entry}
use Rattle.sv_walk.specs.declared.entry.Kind.TheVariants.{Load as ForLoad, Store as ForStore}
use Rattle.sv_walk.specs.declared.entry.View.{View}
use Rattle.sv_walk.specs.Translation.{is_translated}
use Rattle.addr_rows.specs.Walks.{EntryRow}
use Rattle.rv_hart.specs.Machine.{data_view}
use Rattle.tpl_ast.specs.declared.template.Atom.{Atom}
use Rattle.tpl_ast.specs.declared.template.Var.TheVariants as vars
use Rattle.fd_prob.specs.declared.problem.Case.{Case as SolverCase}
use Rattle.fd_prob.specs.declared.problem.Problem.{Problem}
use Rattle.fd_prob.specs.declared.relation.Rel.TheVariants.{Rows}
use Rattle.fd_prob.specs.declared.slot.Slot.{Slot}
use Rattle.fd_prob.specs.declared.slot.Slot.TheVariants as slots
use Rattle.fd_prob.specs.declared.slot.TheConstants.{SLOTS}
use Rattle.fd_prob.specs.Fitting.{IsProblem, domain_of}
use Rattle.fd_prob.specs.Order.{picked, pivot_of, rank}
use Rattle.rv_isa.specs.Numbers.{op_numbered, op_number}
use Rattle.fd_prob.specs.Slots.{slot_number}
use Rattle.fd_prob.specs.Spaces.{saturated, source_of, space, sum_of}
use Rattle.rv_script.specs.Lists.{HasItem}
use Rattle.fd_solve.specs.declared.answers.Solved.{Solved}
use Rattle.fd_solve.specs.Answers.{IsAnswer}
use Rattle.leaf_link.specs.Turns.{Turn, is_first_form, is_second_form}
use Rattle.leaf_link.specs.Values.{Values, new_places}
use Rattle.leaf_link.specs.Candidates.{IsCandidate}
use Rattle.leaf_link.specs.Cases.{Case, all_tests, code_at, in_format, in_read, or_no}
use Rattle.leaf_link.specs.KindLaws.{IsPosed}
use Rattle.leaf_link.specs.Answers.{IsAnswerOver, IsProblemOf}
use Rattle.leaf_link.specs.Problems.{key_of}
use Rattle.leaf_link.specs.Reaching.{AreRows, HasPages}
use Rattle.leaf_link.specs.AllWays.{leaf_cases}

-- DOMAINS
-- the address of one of the modelled registers
abbrev pub is_modelled : ℕ → Bool
is_modelled v = list_any (λ register. nat_eq (address_of register) v) registers

-- a field of the format; of the CSR the addresses of the modelled ones
abbrev pub in_first_format : Op → Slot → ℕ → Bool
in_first_format op slots.Csr v = or_no (has_csr (row_of op)) (is_modelled v) v
in_first_format op s v = in_format op s v

-- the fields of the word at the pc, where it is known, or any of the format
abbrev pub in_first_word : Option ℕ → Op → Slot → ℕ → Bool
in_first_word None op s v = in_first_format op s v
in_first_word (Some w) op s v = in_read (decoded w) s v

abbrev pub is_return : Op → Bool
is_return Mret = true
is_return Sret = true
is_return _ = false

-- the operation may read a CSR
abbrev pub has_old : Op → Bool
has_old op = has_csr (row_of op) || is_return op

abbrev pub has_walk : Turn → Op → Bool
has_walk t op = has_address (row_of op) && is_translated (data_view t.fixed)

-- the default domain of a variable, cut by the atoms on it; a variable that the operation lacks is 0
abbrev pub first_domain : Turn → ℕ → List Atom → Op → Slot → ℕ → Bool
first_domain t pa leaf op slots.Op v = in_first_word (code_at t pa) op slots.Op v && all_tests t leaf vars.Op v
first_domain t pa leaf op slots.Rs1 v = in_first_word (code_at t pa) op slots.Rs1 v && all_tests t leaf vars.Rs1 v
first_domain t pa leaf op slots.Rs2 v = in_first_word (code_at t pa) op slots.Rs2 v && all_tests t leaf vars.Rs2 v
first_domain t pa leaf op slots.Imm v = in_first_word (code_at t pa) op slots.Imm v && all_tests t leaf vars.Imm v
first_domain t pa leaf op slots.Rd v = in_first_word (code_at t pa) op slots.Rd v && all_tests t leaf vars.Rd v
first_domain t pa leaf op slots.Csr v = in_first_word (code_at t pa) op slots.Csr v && all_tests t leaf vars.Csr v
first_domain t pa leaf op slots.Ea v = or_no (has_address (row_of op)) true v && all_tests t leaf vars.Ea v
first_domain t pa leaf op slots.A v = or_no (reads_rs1 (row_of op)) true v && all_tests t leaf vars.A v
first_domain t pa leaf op slots.B v = or_no (reads_rs2 (row_of op)) true v && all_tests t leaf vars.B v
first_domain t pa leaf op slots.FirstPte v = or_no (has_walk t op) (is_first_form t v) v
first_domain t pa leaf op slots.SecondPte v = or_no (has_walk t op) (is_second_form t v) v
first_domain t pa leaf op slots.DataWord v = or_no (has_address (row_of op)) true v
first_domain t pa leaf op slots.OldCsr v = or_no (has_old op) true v
first_domain t pa leaf op slots.Vector v = is_in t.vectors v

-- the elements of the domain, ascending
abbrev pub domain_list : Turn → ℕ → List Atom → Op → Slot → List ℕ
domain_list t pa leaf op s = elements_of (first_domain t pa leaf op s)

-- the operation is in its own domain
abbrev pub is_allowed : Turn → ℕ → List Atom → Op → Bool
is_allowed t pa leaf op = first_domain t pa leaf op slots.Op (op_number op)

-- the operations that are allowed, in their order
abbrev pub allowed_by : Turn → ℕ → List Atom → List Op → List Op
allowed_by t pa leaf ops = filter (is_allowed t pa leaf) ops

-- SPACE
abbrev pub domain_size : Turn → ℕ → List Atom → Op → Slot → ℕ
domain_size t pa leaf op s = length (domain_list t pa leaf op s)

-- the immediates of LUI, AUIPC and JAL don't count
abbrev pub counts_imm : Row → Bool
counts_imm (U opcode) = false
counts_imm (J opcode) = false
counts_imm (R opcode funct3 funct7) = false
counts_imm (I opcode funct3) = true
counts_imm (Shift opcode funct3 funct7) = true
counts_imm (S opcode funct3) = true
counts_imm (B opcode funct3) = true
counts_imm (CsrRow opcode funct3) = false
counts_imm (CsrImmediate opcode funct3) = true
counts_imm (FenceSets opcode funct3) = true
counts_imm (AddressFence opcode funct3 funct7) = false
counts_imm (Whole word) = false
counts_imm DefinedIllegal = true

abbrev pub size_if : Bool → ℕ → ℕ
size_if true n = n
size_if false n = 1

-- the product of five numbers for an operation
abbrev pub op_space : Turn → ℕ → List Atom → Op → ℕ
op_space t pa leaf op =
    size_if (has_rs1 (row_of op)) (domain_size t pa leaf op slots.Rs1) * size_if (has_rs2 (row_of op)) (domain_size t pa leaf op slots.Rs2)
    * size_if (counts_imm (row_of op)) (domain_size t pa leaf op slots.Imm) * size_if (has_csr (row_of op)) (domain_size t pa leaf op slots.Csr)
    * source_of op (domain_size t pa leaf op slots.A)

-- an element of the domain of ea lies in the page with this number
abbrev pub has_element : Turn → List Atom → ℕ → Bool
has_element t leaf page = list_any (λ v. v / 4096 == page) (elements_of (all_tests t leaf vars.Ea))

-- the pages that hold an element of the domain of ea
abbrev pub leaf_pages : Turn → List Atom → ℕ
leaf_pages t leaf = length (filter (has_element t leaf) (numbers_below (2 ^ 20)))

abbrev pub is_data_op : Op → Bool
is_data_op op = has_address (row_of op)

-- the choices of a new root entry times those of a new second one, each at least 1; 1 where nothing is translated
abbrev pub pairs_at : Turn → View → ℕ
pairs_at t v =
    if is_translated v then max 1 (length t.tables + length t.pool * length t.flags) * max 1 (length t.pool * length t.flags) else 1

abbrev pub data_pairs : Turn → ℕ
data_pairs t = pairs_at t (data_view t.fixed)

-- the pages by the pairs, where a load or store is allowed
abbrev pub data_space : Turn → List Atom → List Op → ℕ
data_space t leaf ops = if list_any is_data_op ops then leaf_pages t leaf * data_pairs t else 0

-- the sum over the allowed operations, and what loads and stores add once; it ends at 2 ^ 64 - 1
abbrev pub leaf_space : Turn → ℕ → List Atom → ℕ
leaf_space t pa leaf = saturated (sum_of (map (op_space t pa leaf) (allowed_by t pa leaf OPS)) + data_space t leaf (allowed_by t pa leaf OPS))

-- PIVOTS
-- of the sixteen draws of a turn the first two are for the entries of its fetch, and the others for the variables in their order
abbrev pub leaf_draw : List ℕ → Slot → ℕ
leaf_draw draws s = slice_index draws (slot_number s + 2)

-- the element that a draw picks of the domain with an operation, and 0 of an empty one; of the operation itself one of those that are allowed
abbrev pub leaf_pivot : Turn → ℕ → List Atom → List ℕ → Op → Slot → ℕ
leaf_pivot t pa leaf draws op slots.Op = picked (leaf_draw draws slots.Op) (map op_number (allowed_by t pa leaf OPS))
leaf_pivot t pa leaf draws op s = picked (leaf_draw draws s) (domain_list t pa leaf op s)

abbrev pub is_nearer : Turn → ℕ → List Atom → List ℕ → Values → Values → Slot → Type 0
is_nearer t pa leaf draws x y s =
    rank (leaf_pivot t pa leaf draws (op_numbered (x slots.Op)) s) (x s) < rank (leaf_pivot t pa leaf draws (op_numbered (x slots.Op)) s) (y s)

-- x comes before y: at the first variable in which they differ, its value is nearer above the pivot
abbrev pub Precedes : Turn → ℕ → List Atom → List ℕ → Values → Values → Type 0
Precedes t pa leaf draws x y = (s : Slot) × ((r : Slot) → slot_number r < slot_number s → x r ≡ y r) × is_nearer t pa leaf draws x y s

-- FIRST CASES OF A SOLVER'S PROBLEM
-- a list is the set of the words that pass a test
pub record IsDomain (xs : List ℕ) (test : ℕ → Bool) : Type 0 where
  -- it is a set of words
  pub members : ℕ → Bool
  pub is_set : xs ≡ elements_of members
  pub same : (v : ℕ) → v < 2 ^ 32 → is_in xs v ≡ test v

-- a case has the domains of an operation
pub record IsFirst (t : Turn) (pa : ℕ) (leaf : List Atom) (op : Op) (c : SolverCase) : Type 0 where
  pub allowed : is_in (domain_of c slots.Op) (op_number op) ≡ is_allowed t pa leaf op
  pub domains : is_allowed t pa leaf op ≡ true → (s : Slot) → 0 < slot_number s → IsDomain (domain_of c s) (first_domain t pa leaf op s)

-- an operation that is not allowed may be without a case
abbrev pub IsFirstOf : Turn → ℕ → List Atom → Op → Option SolverCase → Type 0
IsFirstOf t pa leaf op None = is_allowed t pa leaf op ≡ false
IsFirstOf t pa leaf op (Some c) = IsFirst t pa leaf op c

-- the first case of each operation
abbrev pub first_of : Problem → Op → Option SolverCase
first_of p op = find (λ c. c.op == op_number op) p.cases

abbrev pub AreFirsts : Turn → ℕ → List Atom → Problem → Type 0
AreFirsts t pa leaf p = (op : Op) → IsFirstOf t pa leaf op (first_of p op)

-- the draws of a problem are those of the turn
abbrev pub HasDraws : List ℕ → Problem → Type 0
HasDraws draws p = (s : Slot) → slice_index p.pivots (slot_number s) ≡ leaf_draw draws s

-- a problem is that of a leaf, its first cases too, and has the turn's draws and pairs
pub record IsPosedProblem (t : Turn) (walk : List Entry) (pa : ℕ) (leaf : List Atom) (loads stores : List EntryRow) (draws : List ℕ) (p : Problem) : Type 0 where
  pub shape : IsProblem p
  pub no_fetch : p.fetch ≡ false
  pub pairs : p.pairs ≡ data_pairs t
  pub draws_are : HasDraws draws p
  pub firsts : AreFirsts t pa leaf p
  pub cases : IsProblemOf p (leaf_cases t walk pa leaf loads stores)

-- LAWS
-- the space is that of the turn
abbrev pub SpaceIsExact : Type 0
SpaceIsExact = (t : Turn) (pa : ℕ) (leaf : List Atom) (p : Problem) → p.fetch ≡ false → p.pairs ≡ data_pairs t → AreFirsts t pa leaf p → space p ≡ leaf_space t pa leaf

-- and so are the pivots
abbrev pub PivotsAreExact : Type 0
PivotsAreExact =
    (t : Turn) (pa : ℕ) (leaf : List Atom) (draws : List ℕ) (p : Problem) → HasDraws draws p → AreFirsts t pa leaf p → (op : Op) → is_allowed t pa leaf op ≡ true → (s : Slot)
    → pivot_of p (op_number op) s ≡ leaf_pivot t pa leaf draws op s

-- cases that are there for their domains alone
abbrev pub HoldNothing : List SolverCase → Type 0
HoldNothing cs = (c : SolverCase) → HasItem cs c → HasItem c.rels (Rows Rattle.std.specs.Prelude.[])

abbrev pub with_cases : List SolverCase → Problem → Problem
with_cases cs p = record { cases = cs ++ p.cases; pivots = p.pivots; pairs = p.pairs; fetch = p.fetch }

-- they change nothing of what fits
abbrev pub FirstsHoldNothing : Type 0
FirstsHoldNothing = (firsts : List SolverCase) (p : Problem) (cs : List Case) → HoldNothing firsts → IsProblemOf p cs ↔ IsProblemOf (with_cases firsts p) cs

-- THE ANSWER
-- the answer of a leaf by its turn, with no problem of a solver in it
abbrev pub IsTurnAnswer : Turn → ℕ → List Atom → List ℕ → ℕ → Solved → Type 0
IsTurnAnswer t pa leaf draws nodes answer = IsAnswerOver (leaf_space t pa leaf) nodes (Precedes t pa leaf draws) (IsCandidate t leaf) (key_of t leaf) (new_places t.fixed t.known) answer

-- an answer of the problem of a leaf is the answer of the turn
abbrev pub TurnAnswersAreExact : Type 0
TurnAnswersAreExact =
    (t : Turn) (walk : List Entry) (pa : ℕ) (leaf : List Atom) (pages : ℕ → Bool) (loads stores : List EntryRow) (draws : List ℕ) (p : Problem) (nodes : ℕ) (answer : Solved) → IsPosed t walk pa leaf → HasPages t leaf pages → AreRows t pages ForLoad loads → AreRows t pages ForStore stores
    → IsPosedProblem t walk pa leaf loads stores draws p → IsAnswer p nodes answer → IsTurnAnswer t pa leaf draws nodes answer

-- A PROBLEM WITH THESE FIRST CASES
-- the case of an operation that is there for its domains alone
abbrev pub first_case_at : Turn → ℕ → List Atom → Op → SolverCase
first_case_at t pa leaf op = record { op = op_number op; doms = map (domain_list t pa leaf op) SLOTS; rels = Rows Rattle.std.specs.Prelude.[] ∷ Rattle.std.specs.Prelude.[] }

abbrev pub firsts_at : Turn → ℕ → List Atom → List SolverCase
firsts_at t pa leaf = map (first_case_at t pa leaf) OPS

-- before any cases they are the first ones, and they hold nothing
abbrev pub FirstsExist : Type 0
FirstsExist = (t : Turn) (pa : ℕ) (leaf : List Atom) (p : Problem) → AreFirsts t pa leaf (with_cases (firsts_at t pa leaf) p) × HoldNothing (firsts_at t pa leaf)
