-- The laws of operations, as contracts cite them.
use Rattle.std.specs.Prelude.{◌≡◌, ℕ, ◌^◌, ◌<◌, true, if◌then◌else◌, List}
use Rattle.rv_isa.specs.declared.operation.Op.{Op}
use Rattle.rv_isa.specs.declared.operation.Op.TheVariants.{Jal, Jalr, Ecall, Ebreak, SfenceVma, Illegal}
use Rattle.rv_isa.specs.Arithmetic.{is_branch}
use Rattle.rv_isa.specs.Table.{row_of}
use Rattle.rv_csr.specs.declared.access.CsrAccess.{CsrAccess}
use Rattle.rv_csr.specs.declared.cause.Cause.TheVariants.{FetchMisaligned, Illegal as IllegalCause, Breakpoint}
use Rattle.rv_csr.specs.declared.status.Flag.TheVariants.{Tvm}
use Rattle.rv_script.specs.Lists.{HasItem}
use Rattle.rv_script.specs.Folds.{Entry}
use Rattle.rv_hart.specs.Privileged.{call_cause, is_withheld}
use Rattle.tpl_ast.specs.declared.template.Atom.{Atom}
use Rattle.leaf_link.specs.Turns.{Turn}
use Rattle.leaf_link.specs.Values.{assigned, fixed_value, new_places}
use Rattle.leaf_link.specs.Candidates.{IsCandidate}
use Rattle.leaf_link.specs.Cases.{Way, Fits, cases_of}
use Rattle.leaf_link.specs.Ways.{AreWords, IsFetched, IsWays}
use Rattle.leaf_link.specs.Kinds.{branch_goes, far_is_target, forks, is_plain_row, near_is_target, retires, traps}
use Rattle.tpl_ast.specs.Leaves.{IsPlain}
use Rattle.leaf_link.specs.Laws.{OneToOne}

-- what fits the cases of an operation's ways stands one to one for the candidates with this operation
abbrev pub IsExact : Turn → List Entry → ℕ → List Atom → Op → List Way → Type 0
IsExact t walk pa leaf op ways =
    OneToOne (Fits (cases_of t walk pa leaf op ways)) (λ new. (w : IsCandidate t leaf new) × (w.instr.op ≡ op)) (new_places t.fixed t.known) (λ new w. assigned t.fixed t.known w.0.instr w.0.log)

-- the translation of the fetch is settled, what is known is words, those of the fixed CSRs too, and relations are between registers or their values
pub record IsPosed (t : Turn) (walk : List Entry) (pa : ℕ) (leaf : List Atom) : Type 0 where
  pub fetched : IsFetched t walk pa
  pub words : AreWords t.known
  pub fixed : (access : CsrAccess) → fixed_value t.fixed access < 2 ^ 32
  pub plain : (atom : Atom) → HasItem leaf atom → IsPlain atom

-- the law of an operation: where its ways are what the rest of its script does, the problem is exact
abbrev pub WaysAreExact : Type 0
WaysAreExact = (t : Turn) (walk : List Entry) (pa : ℕ) (leaf : List Atom) (op : Op) (ways : List Way) → IsPosed t walk pa leaf → IsWays t walk pa leaf op ways → IsExact t walk pa leaf op ways

-- the laws of operations
abbrev pub PlainIsExact : Type 0
PlainIsExact = (t : Turn) (walk : List Entry) (pa : ℕ) (leaf : List Atom) → IsPosed t walk pa leaf → (op : Op) → is_plain_row (row_of op) ≡ true → IsExact t walk pa leaf op retires

-- a branch or a jump to what is no multiple of 4 traps
abbrev pub BranchesAreExact : Type 0
BranchesAreExact = (t : Turn) (walk : List Entry) (pa : ℕ) (leaf : List Atom) → IsPosed t walk pa leaf → (op : Op) → is_branch op ≡ true → IsExact t walk pa leaf op (forks t FetchMisaligned (branch_goes op t.fixed.pc))

abbrev pub JumpIsExact : Type 0
JumpIsExact = (t : Turn) (walk : List Entry) (pa : ℕ) (leaf : List Atom) → IsPosed t walk pa leaf → IsExact t walk pa leaf Jal (forks t FetchMisaligned (near_is_target t.fixed.pc))

abbrev pub JumpRegisterIsExact : Type 0
JumpRegisterIsExact = (t : Turn) (walk : List Entry) (pa : ℕ) (leaf : List Atom) → IsPosed t walk pa leaf → IsExact t walk pa leaf Jalr (forks t FetchMisaligned far_is_target)

abbrev pub CallIsExact : Type 0
CallIsExact = (t : Turn) (walk : List Entry) (pa : ℕ) (leaf : List Atom) → IsPosed t walk pa leaf → IsExact t walk pa leaf Ecall (traps t (call_cause t.fixed.privilege))

abbrev pub BreakIsExact : Type 0
BreakIsExact = (t : Turn) (walk : List Entry) (pa : ℕ) (leaf : List Atom) → IsPosed t walk pa leaf → IsExact t walk pa leaf Ebreak (traps t Breakpoint)

abbrev pub IllegalIsExact : Type 0
IllegalIsExact = (t : Turn) (walk : List Entry) (pa : ℕ) (leaf : List Atom) → IsPosed t walk pa leaf → IsExact t walk pa leaf Illegal (traps t IllegalCause)

-- SFENCE.VMA is illegal where it is withheld
abbrev pub fence_ways : Turn → List Way
fence_ways t = if is_withheld Tvm t.fixed then traps t IllegalCause else retires

abbrev pub AddressFenceIsExact : Type 0
AddressFenceIsExact = (t : Turn) (walk : List Entry) (pa : ℕ) (leaf : List Atom) → IsPosed t walk pa leaf → IsExact t walk pa leaf SfenceVma (fence_ways t)
