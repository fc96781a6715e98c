-- The answers of the problems of fetches: space and order by the turn.
use Rattle.std.specs.Prelude.{◌≡◌, ℕ, ◌<◌, Bool, true, false, ◌==◌, nat_eq, List, [], ◌∷◌, map, find, slice_index, Option, Some, None}
use Rattle.dom_set.specs.Elements.{elements_of, is_in}
use Rattle.rv_script.specs.Folds.{Known}
use Rattle.rv_hart.specs.Machine.{fetch_view}
use Rattle.fd_prob.specs.declared.problem.Case.{Case as SolverCase}
use Rattle.fd_prob.specs.declared.problem.Problem.{Problem}
use Rattle.fd_prob.specs.declared.relation.Rel.TheVariants.{Rows}
use Rattle.fd_prob.specs.declared.slot.Slot.{Slot}
use Rattle.fd_prob.specs.declared.slot.Slot.TheVariants as slots
use Rattle.fd_prob.specs.declared.slot.TheConstants.{SLOTS}
use Rattle.fd_prob.specs.Fitting.{domain_of}
use Rattle.fd_prob.specs.Order.{picked, rank}
use Rattle.fd_prob.specs.Slots.{slot_number}
use Rattle.fd_solve.specs.declared.answers.Solved.{Solved}
use Rattle.fd_solve.specs.Answers.{IsAnswer}
use Rattle.leaf_link.specs.Turns.{Turn, is_first_form, is_second_form}
use Rattle.leaf_link.specs.Values.{Values, new_places}
use Rattle.leaf_link.specs.Answers.{IsAnswerOver, IsProblemOf}
use Rattle.leaf_link.specs.Fetches.{IsFetchCandidate, fetch_places, fetch_values}
use Rattle.leaf_link.specs.FetchRows.{AreFetchRows, FetchRow, fetch_cases}
use Rattle.leaf_link.specs.Faults.{IsFaultCandidate, fault_values}
use Rattle.leaf_link.specs.FaultRows.{fault_cases}
use Rattle.leaf_link.specs.Firsts.{HoldNothing, IsDomain, pairs_at, with_cases}

-- DOMAINS, DRAWS AND ORDER
-- the variables that a fetch may start
abbrev pub is_fetched_slot : Slot → Bool
is_fetched_slot slots.FirstPte = true
is_fetched_slot slots.SecondPte = true
is_fetched_slot slots.Vector = true
is_fetched_slot _ = false

-- the default domains of the two entries and of the vector; all other variables are 0
abbrev pub fetch_domain : Turn → Slot → ℕ → Bool
fetch_domain t slots.FirstPte v = is_first_form t v
fetch_domain t slots.SecondPte v = is_second_form t v
fetch_domain t slots.Vector v = is_in t.vectors v
fetch_domain t _ v = nat_eq v 0

abbrev pub fetch_list : Turn → Slot → List ℕ
fetch_list t s = elements_of (fetch_domain t s)

-- of the sixteen draws of a turn the first two are for the entries of its fetch, and the last one for the vector of a fetch that fails
abbrev pub fetch_draw : List ℕ → Slot → ℕ
fetch_draw draws slots.FirstPte = slice_index draws 0
fetch_draw draws slots.SecondPte = slice_index draws 1
fetch_draw draws slots.Vector = slice_index draws 15
fetch_draw draws _ = 0

abbrev pub fetch_pivot : Turn → List ℕ → Slot → ℕ
fetch_pivot t draws s = picked (fetch_draw draws s) (fetch_list t s)

-- x comes before y: at the first variable in which they differ, its value is nearer above the pivot
abbrev pub FetchPrecedes : Turn → List ℕ → Values → Values → Type 0
FetchPrecedes t draws x y = (s : Slot) × ((r : Slot) → slot_number r < slot_number s → x r ≡ y r) × (rank (fetch_pivot t draws s) (x s) < rank (fetch_pivot t draws s) (y s))

-- the pairs of entries, where fetches are translated
abbrev pub fetch_space : Turn → ℕ
fetch_space t = pairs_at t (fetch_view t.fixed)

-- ANSWERS, with no problem of a solver in them
abbrev pub fetch_key : (t : Turn) (new : Known) → IsFetchCandidate t new → Values
fetch_key t new w = fetch_values t w.log

abbrev pub fault_key : (t : Turn) (causes : ℕ → Bool) (new : Known) → IsFaultCandidate t causes new → Values
fault_key t causes new w = fault_values t w.log

-- of the fetch of a `do` leaf
abbrev pub IsFetchAnswer : Turn → List ℕ → ℕ → Solved → Type 0
IsFetchAnswer t draws nodes answer = IsAnswerOver (fetch_space t) nodes (FetchPrecedes t draws) (IsFetchCandidate t) (fetch_key t) (fetch_places t) answer

-- of a `fault` leaf
abbrev pub IsFaultAnswer : Turn → (ℕ → Bool) → List ℕ → ℕ → Solved → Type 0
IsFaultAnswer t causes draws nodes answer = IsAnswerOver (fetch_space t) nodes (FetchPrecedes t draws) (IsFaultCandidate t causes) (fault_key t causes) (new_places t.fixed t.known) answer

-- PROBLEMS OF A SOLVER
-- a case has the domains of a fetch
abbrev pub IsFetchFirst : Turn → Option SolverCase → Type 0
IsFetchFirst t None = ⊥
IsFetchFirst t (Some c) = (s : Slot) → is_fetched_slot s ≡ true → IsDomain (domain_of c s) (fetch_domain t s)

-- the first case of a problem; those of fetches have the number 0 for their operation
abbrev pub fetch_first_of : Problem → Option SolverCase
fetch_first_of p = find (λ c. c.op == 0) p.cases

-- a problem is one of a fetch, and has the turn's space, draws and domains
pub record IsFetchProblem (t : Turn) (draws : List ℕ) (p : Problem) : Type 0 where
  pub fetch : p.fetch ≡ true
  pub pairs : p.pairs ≡ fetch_space t
  pub pivots : (s : Slot) → is_fetched_slot s ≡ true → slice_index p.pivots (slot_number s) ≡ fetch_draw draws s
  pub first : IsFetchFirst t (fetch_first_of p)

-- LAWS
-- an answer of a fetch's problem is the answer of the turn
abbrev pub FetchAnswersAreExact : Type 0
FetchAnswersAreExact =
    (t : Turn) (rows : List FetchRow) (draws : List ℕ) (p : Problem) (nodes : ℕ) (answer : Solved) → AreFetchRows t rows
    → IsFetchProblem t draws p → IsProblemOf p (fetch_cases t rows) → IsAnswer p nodes answer → IsFetchAnswer t draws nodes answer

abbrev pub FaultAnswersAreExact : Type 0
FaultAnswersAreExact =
    (t : Turn) (causes : ℕ → Bool) (rows : List FetchRow) (draws : List ℕ) (p : Problem) (nodes : ℕ) (answer : Solved) → AreFetchRows t rows
    → IsFetchProblem t draws p → IsProblemOf p (fault_cases t causes rows) → IsAnswer p nodes answer → IsFaultAnswer t causes draws nodes answer

-- the case of a fetch that is there for its domains alone
abbrev pub fetch_first_at : Turn → SolverCase
fetch_first_at t = record { op = 0; doms = map (fetch_list t) SLOTS; rels = Rows [] ∷ [] }

-- before any cases it is the first one, and it holds nothing
abbrev pub FetchFirstsExist : Type 0
FetchFirstsExist = (t : Turn) (p : Problem) → IsFetchFirst t (fetch_first_of (with_cases (fetch_first_at t ∷ []) p)) × HoldNothing (fetch_first_at t ∷ [])
