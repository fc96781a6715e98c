-- The ways of every operation, and the problem that a leaf poses.
use Rattle.std.specs.Prelude.{◌≡◌, ℕ, Bool, false, List, []}
use Rattle.rv_isa.specs.declared.operation.Op.{Op}
use Rattle.rv_isa.specs.declared.operation.Op.TheVariants.{Jal, Jalr, Beq, Bne, Blt, Bge, Bltu, Bgeu, Lb, Lh, Lw, Lbu, Lhu, Sb, Sh, Sw, Ecall, Ebreak, Csrrw, Csrrs, Csrrc, Csrrwi, Csrrsi, Csrrci, Mret, Sret, SfenceVma, Illegal}
use Rattle.rv_isa.specs.Table.{row_of}
use Rattle.rv_csr.specs.declared.cause.Cause.TheVariants.{FetchMisaligned, Illegal as IllegalCause, Breakpoint}
use Rattle.rv_script.specs.Folds.{Entry}
use Rattle.sv_walk.specs.declared.entry.Kind.TheVariants.{Load as ForLoad, Store as ForStore}
use Rattle.addr_rows.specs.Walks.{EntryRow}
use Rattle.rv_hart.specs.Privileged.{call_cause}
use Rattle.tpl_ast.specs.declared.template.Atom.{Atom}
use Rattle.fd_prob.specs.declared.problem.Problem.{Problem}
use Rattle.fd_solve.specs.declared.answers.Solved.{Solved}
use Rattle.fd_solve.specs.Answers.{IsAnswer}
use Rattle.leaf_link.specs.Turns.{Turn}
use Rattle.rv_isa.specs.Fields.{has_address}
use Rattle.leaf_link.specs.Values.{assigned, new_places}
use Rattle.leaf_link.specs.Ways.{IsFetched, IsWays}
use Rattle.leaf_link.specs.Candidates.{IsCandidate}
use Rattle.leaf_link.specs.Cases.{Case, Fits, Way}
use Rattle.leaf_link.specs.Kinds.{branch_goes, far_is_target, forks, near_is_target, retires, traps}
use Rattle.leaf_link.specs.KindLaws.{IsPosed, fence_ways}
use Rattle.leaf_link.specs.Laws.{OneToOne}
use Rattle.leaf_link.specs.Reaching.{AreRows, HasPages, load_ways, store_ways}
use Rattle.leaf_link.specs.Controls.{csr_ways, mret_ways, sret_ways}
use Rattle.leaf_link.specs.Answers.{IsProblemOf}
use Rattle.leaf_link.specs.Problems.{IsAnswerOverCandidates, cases}

-- how a step of an operation may go on after its sources; the rows are those of the addresses of loads and of stores
abbrev pub ways_of : Turn → List Entry → ℕ → List Atom → List EntryRow → List EntryRow → Op → List Way
ways_of t walk pa leaf loads stores Jal = forks t FetchMisaligned (near_is_target t.fixed.pc)
ways_of t walk pa leaf loads stores Jalr = forks t FetchMisaligned far_is_target
ways_of t walk pa leaf loads stores Beq = forks t FetchMisaligned (branch_goes Beq t.fixed.pc)
ways_of t walk pa leaf loads stores Bne = forks t FetchMisaligned (branch_goes Bne t.fixed.pc)
ways_of t walk pa leaf loads stores Blt = forks t FetchMisaligned (branch_goes Blt t.fixed.pc)
ways_of t walk pa leaf loads stores Bge = forks t FetchMisaligned (branch_goes Bge t.fixed.pc)
ways_of t walk pa leaf loads stores Bltu = forks t FetchMisaligned (branch_goes Bltu t.fixed.pc)
ways_of t walk pa leaf loads stores Bgeu = forks t FetchMisaligned (branch_goes Bgeu t.fixed.pc)
ways_of t walk pa leaf loads stores Lb = load_ways t pa leaf Lb loads
ways_of t walk pa leaf loads stores Lh = load_ways t pa leaf Lh loads
ways_of t walk pa leaf loads stores Lw = load_ways t pa leaf Lw loads
ways_of t walk pa leaf loads stores Lbu = load_ways t pa leaf Lbu loads
ways_of t walk pa leaf loads stores Lhu = load_ways t pa leaf Lhu loads
ways_of t walk pa leaf loads stores Sb = store_ways t walk pa leaf Sb stores
ways_of t walk pa leaf loads stores Sh = store_ways t walk pa leaf Sh stores
ways_of t walk pa leaf loads stores Sw = store_ways t walk pa leaf Sw stores
ways_of t walk pa leaf loads stores Ecall = traps t (call_cause t.fixed.privilege)
ways_of t walk pa leaf loads stores Ebreak = traps t Breakpoint
ways_of t walk pa leaf loads stores Csrrw = csr_ways t Csrrw
ways_of t walk pa leaf loads stores Csrrs = csr_ways t Csrrs
ways_of t walk pa leaf loads stores Csrrc = csr_ways t Csrrc
ways_of t walk pa leaf loads stores Csrrwi = csr_ways t Csrrwi
ways_of t walk pa leaf loads stores Csrrsi = csr_ways t Csrrsi
ways_of t walk pa leaf loads stores Csrrci = csr_ways t Csrrci
ways_of t walk pa leaf loads stores Mret = mret_ways t
ways_of t walk pa leaf loads stores Sret = sret_ways t
ways_of t walk pa leaf loads stores SfenceVma = fence_ways t
ways_of t walk pa leaf loads stores Illegal = traps t IllegalCause
ways_of t walk pa leaf loads stores _ = retires

-- without a data access, the ways are what the rest of the script does, whatever the rows
abbrev pub WaysAreBuilt : Type 0
WaysAreBuilt =
    (t : Turn) (walk : List Entry) (pa : ℕ) (leaf : List Atom) → IsFetched t walk pa → (op : Op) → has_address (row_of op) ≡ false
    → IsWays t walk pa leaf op (ways_of t walk pa leaf [] [] op)

-- and with one, where the rows are those of the translation for all addresses that the atoms let be the virtual one
abbrev pub AllWaysAreBuilt : Type 0
AllWaysAreBuilt =
    (t : Turn) (walk : List Entry) (pa : ℕ) (leaf : List Atom) (pages : ℕ → Bool) (loads stores : List EntryRow) → IsFetched t walk pa → HasPages t leaf pages → AreRows t pages ForLoad loads → AreRows t pages ForStore stores
    → (op : Op) → IsWays t walk pa leaf op (ways_of t walk pa leaf loads stores op)

-- the cases of a leaf's problem
abbrev pub leaf_cases : Turn → List Entry → ℕ → List Atom → List EntryRow → List EntryRow → List Case
leaf_cases t walk pa leaf loads stores = cases t walk pa leaf (ways_of t walk pa leaf loads stores)

-- what fits a leaf's problem stands one to one for the candidates, and each is the values of its candidate
abbrev pub LeafProblemsAreExact : Type 0
LeafProblemsAreExact =
    (t : Turn) (walk : List Entry) (pa : ℕ) (leaf : List Atom) (pages : ℕ → Bool) (loads stores : List EntryRow) → IsPosed t walk pa leaf → HasPages t leaf pages → AreRows t pages ForLoad loads → AreRows t pages ForStore stores
    → OneToOne (Fits (leaf_cases t walk pa leaf loads stores)) (IsCandidate t leaf) (new_places t.fixed t.known) (λ new w. assigned t.fixed t.known w.instr w.log)

-- an answer of a leaf's problem is the answer over candidates
abbrev pub LeafAnswersAreExact : Type 0
LeafAnswersAreExact =
    (t : Turn) (walk : List Entry) (pa : ℕ) (leaf : List Atom) (pages : ℕ → Bool) (loads stores : List EntryRow) (p : Problem) (nodes : ℕ) (answer : Solved) → IsPosed t walk pa leaf → HasPages t leaf pages → AreRows t pages ForLoad loads → AreRows t pages ForStore stores
    → IsProblemOf p (leaf_cases t walk pa leaf loads stores) → IsAnswer p nodes answer → IsAnswerOverCandidates p nodes t leaf answer
