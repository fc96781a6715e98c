-- The problem of a leaf as a whole: its answers are the answers over candidates, and a bias is its atoms.
use Rattle.std.specs.Prelude.{◌≡◌, ℕ, ◌↔◌, Bool, true, ◌&&◌, List, [], ◌∷◌, ◌++◌}
use Rattle.rv_isa.specs.declared.operation.Op.{Op}
use Rattle.rv_isa.specs.declared.operation.TheConstants.{OPS}
use Rattle.rv_script.specs.Folds.{Known, Entry}
use Rattle.tpl_ast.specs.declared.template.Atom.{Atom}
use Rattle.tpl_ast.specs.declared.template.Var.TheVariants as vars
use Rattle.fd_prob.specs.declared.problem.Problem.{Problem}
use Rattle.fd_prob.specs.declared.slot.Slot.{Slot}
use Rattle.fd_prob.specs.declared.slot.Slot.TheVariants as slots
use Rattle.fd_solve.specs.declared.answers.Solved.{Solved}
use Rattle.fd_solve.specs.Answers.{IsAnswer}
use Rattle.fd_prob.specs.Spaces.{space}
use Rattle.leaf_link.specs.Turns.{Turn}
use Rattle.leaf_link.specs.Values.{Values, assigned, new_places}
use Rattle.leaf_link.specs.Candidates.{IsCandidate}
use Rattle.leaf_link.specs.Cases.{Case, Fits, FitsCase, Way, all_judged, all_tests, atoms_hold, case_at, cases_of, is_posed, shape_of}
use Rattle.leaf_link.specs.Ways.{IsWays}
use Rattle.leaf_link.specs.Laws.{OneToOne}
use Rattle.leaf_link.specs.KindLaws.{IsPosed}
use Rattle.leaf_link.specs.Answers.{ComesBeforeIn, IsAnswerOver, IsProblemOf}

-- THE WHOLE PROBLEM
-- the cases of operations, one after another
abbrev pub cases_over : Turn → List Entry → ℕ → List Atom → (Op → List Way) → List Op → List Case
cases_over t walk pa leaf ways [] = []
cases_over t walk pa leaf ways (op ∷ ops) = cases_of t walk pa leaf op (ways op) ++ cases_over t walk pa leaf ways ops

-- the cases of all operations
abbrev pub cases : Turn → List Entry → ℕ → List Atom → (Op → List Way) → List Case
cases t walk pa leaf ways = cases_over t walk pa leaf ways OPS

-- what fits a problem stands one to one for the candidates
abbrev pub ProblemIsExact : Type 0
ProblemIsExact =
    (t : Turn) (walk : List Entry) (pa : ℕ) (leaf : List Atom) (ways : Op → List Way) → IsPosed t walk pa leaf → ((op : Op) → IsWays t walk pa leaf op (ways op))
    → OneToOne (Fits (cases t walk pa leaf ways)) (IsCandidate t leaf) (new_places t.fixed t.known) (λ new w. assigned t.fixed t.known w.instr w.log)

-- ANSWERS
-- the values of a candidate
abbrev pub key_of : (t : Turn) (leaf : List Atom) (new : Known) → IsCandidate t leaf new → Values
key_of t leaf new w = assigned t.fixed t.known w.instr w.log

-- an answer over candidates, with the space and the order of a problem
abbrev pub IsAnswerOverCandidates : Problem → ℕ → Turn → List Atom → Solved → Type 0
IsAnswerOverCandidates p nodes t leaf answer = IsAnswerOver (space p) nodes (ComesBeforeIn p) (IsCandidate t leaf) (key_of t leaf) (new_places t.fixed t.known) answer

-- the answer of a problem is that over candidates
abbrev pub AnswersAreExact : Type 0
AnswersAreExact =
    (t : Turn) (walk : List Entry) (pa : ℕ) (leaf : List Atom) (ways : Op → List Way) (p : Problem) (nodes : ℕ) (answer : Solved)
    → IsPosed t walk pa leaf → ((op : Op) → IsWays t walk pa leaf op (ways op)) → IsProblemOf p (cases t walk pa leaf ways)
    → IsAnswer p nodes answer → IsAnswerOverCandidates p nodes t leaf answer

-- BIASES
-- a bias stays in a case where the step has what it speaks of, and the outcome passes
abbrev pub bias_stays : Turn → List Atom → Op → Way → Bool
bias_stays t bias op way = all_judged (shape_of op way) bias && all_tests t bias vars.Outcome way.outcome

-- what a bias cuts a variable's domain to, whatever the case
abbrev pub bias_cut : Turn → List Atom → Slot → ℕ → Bool
bias_cut t bias slots.Op v = all_tests t bias vars.Op v
bias_cut t bias slots.Rs1 v = all_tests t bias vars.Rs1 v
bias_cut t bias slots.Rs2 v = all_tests t bias vars.Rs2 v
bias_cut t bias slots.Imm v = all_tests t bias vars.Imm v
bias_cut t bias slots.Rd v = all_tests t bias vars.Rd v
bias_cut t bias slots.Csr v = all_tests t bias vars.Csr v
bias_cut t bias slots.Ea v = all_tests t bias vars.Ea v
bias_cut t bias slots.A v = all_tests t bias vars.A v
bias_cut t bias slots.B v = all_tests t bias vars.B v
bias_cut t bias _ v = true

-- a case is posed, and fits
pub record FitsPosed (t : Turn) (walk : List Entry) (pa : ℕ) (leaf : List Atom) (op : Op) (way : Way) (x : Values) : Type 0 where
  pub posed : is_posed t walk pa leaf (shape_of op way) ≡ true
  pub fits : FitsCase (case_at t pa leaf op way) x

-- what a bias adds is met
pub record MeetsBias (t : Turn) (bias : List Atom) (op : Op) (way : Way) (x : Values) : Type 0 where
  pub stays : bias_stays t bias op way ≡ true
  pub cuts : (s : Slot) → bias_cut t bias s (x s) ≡ true
  pub holds : atoms_hold t bias (shape_of op way) x ≡ true

-- a way with more atoms is the way and what these atoms add; of its physical address its ways speak
abbrev pub BiasesAreAtoms : Type 0
BiasesAreAtoms =
    (t : Turn) (walk : List Entry) (pa : ℕ) (leaf bias : List Atom) (op : Op) (way : Way) (x : Values)
    → FitsPosed t walk pa (leaf ++ bias) op way x ↔ (FitsPosed t walk pa leaf op way x × MeetsBias t bias op way x)
