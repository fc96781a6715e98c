-- A turn has one answer: there is one, and two answers of it are the same, up to how their values are kept.
use Rattle.std.specs.Prelude.{◌≡◌, ℕ, Bool, List}
use Rattle.rv_script.specs.declared.place.Place.{Place}
use Rattle.rv_script.specs.Folds.{Known, Entry}
use Rattle.sv_walk.specs.declared.entry.Kind.TheVariants.{Load as ForLoad, Store as ForStore}
use Rattle.addr_rows.specs.Walks.{EntryRow}
use Rattle.tpl_ast.specs.declared.template.Atom.{Atom}
use Rattle.fd_prob.specs.declared.slot.Slot.{Slot}
use Rattle.fd_solve.specs.declared.answers.LeafAnswer.{LeafAnswer}
use Rattle.fd_solve.specs.declared.answers.Solved.{Solved}
use Rattle.fd_solve.specs.declared.answers.Solved.TheVariants as answers
use Rattle.leaf_link.specs.Turns.{Turn}
use Rattle.leaf_link.specs.Values.{Values, new_places}
use Rattle.leaf_link.specs.KindLaws.{IsPosed}
use Rattle.leaf_link.specs.Answers.{values_in}
use Rattle.leaf_link.specs.Fetches.{fetch_places}
use Rattle.leaf_link.specs.Reaching.{AreRows, HasPages}
use Rattle.leaf_link.specs.FetchRows.{AreFetchRows, FetchRow}
use Rattle.leaf_link.specs.Firsts.{IsTurnAnswer}
use Rattle.leaf_link.specs.FetchAnswers.{IsFaultAnswer, IsFetchAnswer}
use Rattle.leaf_link.specs.Extras.{AllPlain, IsTurnLeafAnswer}

-- two assignments give each variable one value, and start the same places with the same values
pub record AreSameValues (places : Values → Known) (x y : Values) : Type 0 where
  pub values : (s : Slot) → x s ≡ y s
  pub starts : (place : Place) → places x place ≡ places y place

-- two answers say the same
abbrev pub AreSame : (Values → Known) → Solved → Solved → Type 0
AreSame places (answers.Found x) (answers.Found y) = AreSameValues places (values_in x) (values_in y)
AreSame places answers.NoneFits answers.NoneFits = Unit {0}
AreSame places answers.Spent answers.Spent = Unit {0}
AreSame places _ _ = ⊥

-- THERE IS ONE AT MOST
-- of a leaf with a list of atoms
abbrev pub TurnAnswersAgree : Type 0
TurnAnswersAgree =
    (t : Turn) (walk : List Entry) (pa : ℕ) (leaf : List Atom) (draws : List ℕ) (nodes : ℕ) (one other : Solved) → IsPosed t walk pa leaf
    → IsTurnAnswer t pa leaf draws nodes one → IsTurnAnswer t pa leaf draws nodes other → AreSame (new_places t.fixed t.known) one other

-- of a leaf with its biases: the answer, and which biases are dropped and why
abbrev pub LeafAnswersAgree : Type 0
LeafAnswersAgree =
    (t : Turn) (walk : List Entry) (pa : ℕ) (leaf : List Atom) (biases : List (List Atom)) (draws : List ℕ) (nodes : ℕ) (one other : LeafAnswer) → IsPosed t walk pa leaf → AllPlain biases
    → IsTurnLeafAnswer t pa leaf biases draws nodes one → IsTurnLeafAnswer t pa leaf biases draws nodes other
    → AreSame (new_places t.fixed t.known) one.solved other.solved × (one.dropped ≡ other.dropped)

-- of the fetch of a `do` leaf
abbrev pub FetchAnswersAgree : Type 0
FetchAnswersAgree =
    (t : Turn) (draws : List ℕ) (nodes : ℕ) (one other : Solved) → IsFetchAnswer t draws nodes one → IsFetchAnswer t draws nodes other → AreSame (fetch_places t) one other

-- of a `fault` leaf
abbrev pub FaultAnswersAgree : Type 0
FaultAnswersAgree =
    (t : Turn) (causes : ℕ → Bool) (draws : List ℕ) (nodes : ℕ) (one other : Solved)
    → IsFaultAnswer t causes draws nodes one → IsFaultAnswer t causes draws nodes other → AreSame (new_places t.fixed t.known) one other

-- THERE IS ONE
-- where the rows are those of the translation, so that what fits can be told
abbrev pub TurnAnswersExist : Type 0
TurnAnswersExist =
    (t : Turn) (walk : List Entry) (pa : ℕ) (leaf : List Atom) (pages : ℕ → Bool) (loads stores : List EntryRow) (draws : List ℕ) (nodes : ℕ)
    → IsPosed t walk pa leaf → HasPages t leaf pages → AreRows t pages ForLoad loads → AreRows t pages ForStore stores → (answer : Solved) × IsTurnAnswer t pa leaf draws nodes answer

abbrev pub LeafAnswersExist : Type 0
LeafAnswersExist =
    (t : Turn) (walk : List Entry) (pa : ℕ) (leaf : List Atom) (biases : List (List Atom)) (pages : ℕ → Bool) (loads stores : List EntryRow) (draws : List ℕ) (nodes : ℕ)
    → IsPosed t walk pa leaf → AllPlain biases → HasPages t leaf pages → AreRows t pages ForLoad loads → AreRows t pages ForStore stores → (answer : LeafAnswer) × IsTurnLeafAnswer t pa leaf biases draws nodes answer

abbrev pub FetchAnswersExist : Type 0
FetchAnswersExist = (t : Turn) (rows : List FetchRow) (draws : List ℕ) (nodes : ℕ) → AreFetchRows t rows → (answer : Solved) × IsFetchAnswer t draws nodes answer

abbrev pub FaultAnswersExist : Type 0
FaultAnswersExist = (t : Turn) (causes : ℕ → Bool) (rows : List FetchRow) (draws : List ℕ) (nodes : ℕ) → AreFetchRows t rows → (answer : Solved) × IsFaultAnswer t causes draws nodes answer
