-- That what is found for a leaf can be taken.
use Rattle.std.specs.Prelude.{◌≡◌, ℕ, ◌%◌, ◌++◌, Bool, List}
use Rattle.rv_script.specs.Folds.{Entry}
use Rattle.foot_map.specs.declared.touch.Touch.{Touch}
use Rattle.foot_map.specs.Races.{IsFootprint}
use Rattle.fd_prob.specs.declared.problem.Assignment.{Assignment}
use Rattle.fd_solve.specs.declared.answers.Solved.TheVariants as answers
use Rattle.tpl_ast.specs.declared.template.Atom.{Atom}
use Rattle.tpl_admit.specs.Races.{footprints_of}
use Rattle.part_machine.specs.Whole.{Whole, hart_of, records_of}
use Rattle.leaf_link.specs.Answers.{values_in}
use Rattle.leaf_link.specs.FetchAnswers.{IsFaultAnswer, IsFetchAnswer}
use Rattle.leaf_link.specs.Firsts.{IsTurnAnswer}
use Rattle.leaf_link.specs.KindLaws.{IsPosed}
use Rattle.leaf_link.specs.Values.{Values}
use Rattle.turn_laws.specs.Ahead.{AreVectors}
use Rattle.turn_laws.specs.Given.{Setting, turn_at}
use Rattle.leaf_turn.specs.declared.taking.Fetch.TheVariants as fetches
use Rattle.leaf_turn.specs.Answers.{IsFound, IsPlayable}
use Rattle.leaf_turn.specs.Entering.{IsEnterable, root_at}

-- what is found for a leaf's atoms and the biases that are kept
abbrev pub AnswersAreFound : Type 0
AnswersAreFound =
    (k : ℕ) (w : Whole) (s : Setting) (feet : List Touch) (walk : List Entry) (pa : ℕ) (leaf kept : List Atom) (draws : List ℕ) (nodes : ℕ) (x : Assignment)
    → AreVectors s.vectors → IsFootprint feet (footprints_of (λ j. records_of j w))
    → IsPosed (turn_at s feet k w) walk pa (leaf ++ kept)
    → IsTurnAnswer (turn_at s feet k w) pa (leaf ++ kept) draws nodes (answers.Found x) → IsFound k w pa (values_in x)

-- what is found is a step that the hart can make
abbrev pub FoundArePlayable : Type 0
FoundArePlayable = (k : ℕ) (w : Whole) (pa : ℕ) (x : Values) → IsFound k w pa x → IsPlayable k w (fetches.From pa) x

-- and so is what is found for a `fault` leaf
abbrev pub FaultsArePlayable : Type 0
FaultsArePlayable =
    (k : ℕ) (w : Whole) (s : Setting) (feet : List Touch) (causes : ℕ → Bool) (draws : List ℕ) (nodes : ℕ) (x : Assignment)
    → AreVectors s.vectors → IsFootprint feet (footprints_of (λ j. records_of j w)) → (hart_of k w).pc % 4 ≡ 0
    → IsFaultAnswer (turn_at s feet k w) causes draws nodes (answers.Found x) → IsPlayable k w (fetches.Fails (root_at k w)) (values_in x)

-- the values of what is found for the fetch of a `do` leaf are those of a fetch whose entries can be given
abbrev pub FetchesAreEnterable : Type 0
FetchesAreEnterable =
    (k : ℕ) (w : Whole) (s : Setting) (feet : List Touch) (draws : List ℕ) (nodes : ℕ) (x : Assignment)
    → AreVectors s.vectors → IsFootprint feet (footprints_of (λ j. records_of j w)) → (hart_of k w).pc % 4 ≡ 0 → IsFetchAnswer (turn_at s feet k w) draws nodes (answers.Found x) → IsEnterable k w (values_in x)
