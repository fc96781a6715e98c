-- What a bias adds to a problem, and that the biases that are kept are those that have a candidate.
use Rattle.std.specs.Prelude.{◌≡◌, ℕ, ◌+◌, ◌^◌, ◌<◌, ◌↔◌, Bool, true, false, ◌&&◌, ◌==◌, if◌then◌else◌, List, [], ◌∷◌, ◌++◌}
use Rattle.std.specs.List.{list_all}
use Rattle.dom_set.specs.Elements.{is_in}
use Rattle.rv_isa.specs.declared.operation.Op.{Op}
use Rattle.rv_script.specs.Lists.{HasItem}
use Rattle.rv_script.specs.Folds.{Answer, Answer.Does, Answer.Missing, Answer.Nowhere, Entry}
use Rattle.sv_walk.specs.declared.entry.Kind.TheVariants.{Load as ForLoad, Store as ForStore}
use Rattle.addr_rows.specs.Walks.{EntryRow}
use Rattle.rv_hart.specs.declared.record.Change.{Change}
use Rattle.rv_hart.specs.Machine.{script}
use Rattle.tpl_ast.specs.declared.template.Atom.{Atom}
use Rattle.fd_prob.specs.declared.problem.Assignment.{Assignment}
use Rattle.fd_prob.specs.declared.problem.Case.{Case as SolverCase}
use Rattle.fd_prob.specs.declared.problem.Extra.{Extra}
use Rattle.fd_prob.specs.declared.problem.Problem.{Problem}
use Rattle.fd_prob.specs.declared.slot.Slot.{Slot}
use Rattle.fd_prob.specs.Extras.{extended}
use Rattle.fd_prob.specs.Fitting.{IsProblem, fits_case}
use Rattle.fd_prob.specs.Order.{IsAssignment}
use Rattle.fd_prob.specs.Relations.{holds, value_of}
use Rattle.rv_isa.specs.Numbers.{op_numbered}
use Rattle.fd_prob.specs.Slots.{slot_number}
use Rattle.fd_solve.specs.declared.answers.LeafAnswer.{LeafAnswer}
use Rattle.fd_solve.specs.declared.answers.Solved.{Solved}
use Rattle.fd_solve.specs.declared.answers.Solved.TheVariants as answers
use Rattle.fd_solve.specs.Answers.{IsLeafAnswer}
use Rattle.tpl_ast.specs.declared.template.Var.TheVariants as vars
use Rattle.tpl_admit.specs.Variables.{data_address}
use Rattle.leaf_link.specs.Cases.{Way, all_tests}
use Rattle.leaf_link.specs.Ways.{IsFetched, IsWays}
use Rattle.rv_script.specs.Logs.{answer_told, by_answers, value_or}
use Rattle.leaf_link.specs.Turns.{Turn}
use Rattle.leaf_link.specs.Values.{Values, given_by}
use Rattle.leaf_link.specs.Candidates.{accesses_in, all_met, moment_of}
use Rattle.tpl_ast.specs.Leaves.{IsPlain}
use Rattle.leaf_link.specs.KindLaws.{IsPosed}
use Rattle.leaf_link.specs.Answers.{values_in}
use Rattle.leaf_link.specs.Problems.{FitsPosed, MeetsBias, bias_cut}
use Rattle.leaf_link.specs.Reaching.{AreRows, HasPages}
use Rattle.leaf_link.specs.Firsts.{IsPosedProblem, IsTurnAnswer}

abbrev pub ArePlain : List Atom → Type 0
ArePlain atoms = (atom : Atom) → HasItem atoms atom → IsPlain atom

abbrev pub AllPlain : List (List Atom) → Type 0
AllPlain [] = Unit {0}
AllPlain (bias ∷ biases) = ArePlain bias × AllPlain biases

-- THE STEP OF VALUES MEETS ATOMS
abbrev pub met_in : Turn → List Atom → Answer Entry Change → Bool
met_in t atoms (Does log change) = all_met t (moment_of t log change) atoms
met_in t atoms (Missing place) = false
met_in t atoms Nowhere = false

-- every atom, those on the physical address too, is true of the step that the values' answers make
abbrev pub met_by : Turn → List Atom → Values → Bool
met_by t atoms x = met_in t atoms (answer_told (by_answers t.known (given_by x)) (script t.fixed))

abbrev pub address_in : Turn → Answer Entry Change → ℕ
address_in t (Does log change) = value_or (data_address (accesses_in log)) 0
address_in t (Missing place) = 0
address_in t Nowhere = 0

-- the physical address of its data access, and 0 where it makes none
abbrev pub address_by : Turn → Values → ℕ
address_by t x = address_in t (answer_told (by_answers t.known (given_by x)) (script t.fixed))

-- in a case, what a bias adds is met: its entry, its cuts, its relations, and on the physical address of the data access what it says of it
pub record MeetsInCase (t : Turn) (bias : List Atom) (op : Op) (way : Way) (x : Values) : Type 0 where
  pub bias_met : MeetsBias t bias op way x
  pub address : way.reaches ≡ true → all_tests t bias vars.Pa (address_by t x) ≡ true

-- of what fits a case, the atoms are true where this is met
abbrev pub BiasesInCases : Type 0
BiasesInCases =
    (t : Turn) (walk : List Entry) (pa : ℕ) (leaf bias : List Atom) (op : Op) (ways : List Way) (x : Values) → IsFetched t walk pa → ArePlain leaf → ArePlain bias → IsWays t walk pa leaf op ways
    → (way : Way) → HasItem ways way → FitsPosed t walk pa leaf op way x → (met_by t bias x ≡ true) ↔ MeetsInCase t bias op way x

-- and what fits a case with a data access makes it where the case's own atoms want it
abbrev pub AddressesAreWanted : Type 0
AddressesAreWanted =
    (t : Turn) (walk : List Entry) (pa : ℕ) (leaf : List Atom) (op : Op) (ways : List Way) (x : Values) → IsFetched t walk pa → ArePlain leaf → IsWays t walk pa leaf op ways
    → (way : Way) → HasItem ways way → FitsPosed t walk pa leaf op way x → way.reaches ≡ true → all_tests t leaf vars.Pa (address_by t x) ≡ true

-- WHAT AN EXTRA ASKS
-- the cuts of a variable let a value through
abbrev pub passes_cuts : List (Slot × List ℕ) → Slot → ℕ → Bool
passes_cuts [] s v = true
passes_cuts (cut ∷ cuts) s v = (if slot_number cut.0 == slot_number s then is_in cut.1 v else true) && passes_cuts cuts s v

-- an assignment is let through in a case that stays or not
pub record PassesExtra (e : Extra) (stays : Bool) (op : Op) (x : Assignment) : Type 0 where
  pub stays_is : stays ≡ true
  pub cuts : (s : Slot) → passes_cuts e.cuts s (value_of x s) ≡ true
  pub rels : list_all (holds op x) e.rels ≡ true

-- case by case: of what fits it, the Extra lets through what meets the atoms
abbrev pub AreAdded : Turn → List Atom → Extra → List Bool → List SolverCase → Type 0
AreAdded t bias e [] [] = Unit {0}
AreAdded t bias e (stays ∷ more) (c ∷ cs) =
    ((x : Assignment) → IsAssignment x → fits_case x c ≡ true → PassesExtra e stays (op_numbered c.op) x ↔ (met_by t bias (values_in x) ≡ true)) × AreAdded t bias e more cs
AreAdded t bias e [] (c ∷ cs) = ⊥
AreAdded t bias e (stays ∷ more) [] = ⊥

-- an Extra is its atoms; its cuts are those that the atoms make of domains, whatever the case
pub record IsExtraOf (t : Turn) (bias : List Atom) (e : Extra) (p : Problem) : Type 0 where
  pub added : AreAdded t bias e e.cases p.cases
  pub cuts : (s : Slot) (v : ℕ) → v < 2 ^ 32 → passes_cuts e.cuts s v ≡ bias_cut t bias s v

-- the Extras are the biases, in their order
abbrev pub ArePosedExtras : Turn → List (List Atom) → Problem → List Extra → Type 0
ArePosedExtras t [] p [] = Unit {0}
ArePosedExtras t (bias ∷ biases) p (e ∷ es) = IsExtraOf t bias e p × ArePosedExtras t biases p es
ArePosedExtras t [] p (e ∷ es) = ⊥
ArePosedExtras t (bias ∷ biases) p [] = ⊥

-- LAWS
-- the problem with an Extra is the problem of the leaf with the bias, its first cases too
abbrev pub ExtrasAreBiases : Type 0
ExtrasAreBiases =
    (t : Turn) (walk : List Entry) (pa : ℕ) (leaf bias : List Atom) (pages : ℕ → Bool) (loads stores : List EntryRow) (draws : List ℕ) (p : Problem) (e : Extra)
    → IsPosed t walk pa leaf → ArePlain bias → HasPages t leaf pages → AreRows t pages ForLoad loads → AreRows t pages ForStore stores
    → IsPosedProblem t walk pa leaf loads stores draws p → IsExtraOf t bias e p → IsPosedProblem t walk pa (leaf ++ bias) loads stores draws (extended e p)

-- what is its atoms stays so, whatever was kept before
abbrev pub ExtrasStay : Type 0
ExtrasStay = (t : Turn) (bias other : List Atom) (e d : Extra) (p : Problem) → IsProblem p → IsExtraOf t bias e p → IsExtraOf t other d p → IsExtraOf t other d (extended e p)

-- KEPT BIASES
-- the mandatory atoms and those of the kept biases, and the positions of the others with whether the budget was spent
pub record Taken : Type 0 where
  pub atoms : List Atom
  pub dropped : List (ℕ × Bool)

abbrev pub kept_with : Solved → ℕ → List Atom → Taken → Taken
kept_with (answers.Found x) position bias before = record { atoms = before.atoms ++ bias; dropped = before.dropped }
kept_with answers.NoneFits position bias before = record { atoms = before.atoms; dropped = before.dropped ++ (position, false) ∷ [] }
kept_with answers.Spent position bias before = record { atoms = before.atoms; dropped = before.dropped ++ (position, true) ∷ [] }

-- the biases are taken in order, each judged by the answer of the atoms so far and its own
abbrev pub AreJudged : Turn → ℕ → List ℕ → ℕ → ℕ → List (List Atom) → Taken → Taken → Type 0
AreJudged t pa draws nodes position [] before after = after ≡ before
AreJudged t pa draws nodes position (bias ∷ biases) before after =
    (answer : Solved) × IsTurnAnswer t pa (before.atoms ++ bias) draws nodes answer × AreJudged t pa draws nodes (position + 1) biases (kept_with answer position bias before) after

-- the answer is that of the atoms with all kept biases, and the others are listed
abbrev pub IsTurnLeafAnswer : Turn → ℕ → List Atom → List (List Atom) → List ℕ → ℕ → LeafAnswer → Type 0
IsTurnLeafAnswer t pa leaf biases draws nodes answer =
    (atoms : List Atom) × AreJudged t pa draws nodes 0 biases (record { atoms = leaf; dropped = [] }) (record { atoms = atoms; dropped = answer.dropped }) × IsTurnAnswer t pa atoms draws nodes answer.solved

-- a solver's answer with biases is the answer over candidates
abbrev pub BiasesAreKept : Type 0
BiasesAreKept =
    (t : Turn) (walk : List Entry) (pa : ℕ) (leaf : List Atom) (biases : List (List Atom)) (pages : ℕ → Bool) (loads stores : List EntryRow) (draws : List ℕ) (p : Problem) (es : List Extra) (nodes : ℕ) (answer : LeafAnswer)
    → IsPosed t walk pa leaf → AllPlain biases → HasPages t leaf pages → AreRows t pages ForLoad loads → AreRows t pages ForStore stores
    → IsPosedProblem t walk pa leaf loads stores draws p → ArePosedExtras t biases p es
    → IsLeafAnswer p es nodes answer → IsTurnLeafAnswer t pa leaf biases draws nodes answer
