-- What a leaf turn, a label and a choice make of a test that is being made.
use Rattle.std.specs.Prelude.{◌≡◌, ℕ, ◌+◌, ◌==◌, ◌&&◌, Bool, List, [], ◌∷◌, ◌++◌, map, length, Option, Some, None, is_some, slice_index, slice_index_or, slice_set, take, if◌then◌else◌}
use Rattle.std.specs.List.{list_any}
use Rattle.dom_set.specs.Elements.{is_in}
use Rattle.rv_script.specs.Folds.{Entry}
use Rattle.rv_script.specs.Logs.{enlarged}
use Rattle.rv_hart.specs.declared.record.Record.{Record}
use Rattle.rv_hart.specs.Clauses.{IsFitRecord}
use Rattle.tpl_ast.specs.declared.template.Atom.{Atom}
use Rattle.tpl_ast.specs.declared.template.Atom.TheVariants as atoms
use Rattle.tpl_ast.specs.declared.template.Item.{Item}
use Rattle.tpl_ast.specs.declared.template.Item.TheVariants as items
use Rattle.tpl_ast.specs.declared.template.Var.{Var}
use Rattle.tpl_ast.specs.declared.template.Wish.{Wish}
use Rattle.tpl_admit.specs.declared.dropped.Dropped.{Dropped}
use Rattle.tpl_admit.specs.declared.dropped.Why.TheVariants as whys
use Rattle.tpl_admit.specs.Variables.{Moment, value_of}
use Rattle.part_machine.specs.Whole.{Whole, chosen, hart_of, records_of}
use Rattle.part_state.specs.Meaning.{IsTest}
use Rattle.fd_solve.specs.declared.answers.LeafAnswer.{LeafAnswer}
use Rattle.fd_solve.specs.declared.answers.Solved.{Solved}
use Rattle.fd_solve.specs.declared.answers.Solved.TheVariants as answers
use Rattle.leaf_link.specs.Answers.{values_in}
use Rattle.leaf_link.specs.Candidates.{registers_from}
use Rattle.leaf_link.specs.Extras.{IsTurnLeafAnswer}
use Rattle.leaf_link.specs.Fetches.{fetch_places}
use Rattle.leaf_link.specs.FetchAnswers.{IsFaultAnswer, IsFetchAnswer}
use Rattle.leaf_link.specs.Values.{Values}
use Rattle.leaf_link.specs.Ways.{IsFetched}
use Rattle.turn_laws.specs.Given.{known_at}
use Rattle.leaf_turn.specs.Answers.{ArePlaced, IsTakenBy, new_at}
use Rattle.leaf_turn.specs.Wishes.{biases_of, mandatory_of}
use Rattle.gen_search.specs.Search.{Turned, Turned.Taken, Turned.NoneFits, Turned.Spent}
use Rattle.gen_turn.specs.Drafts.{Drafted, at_test, turn_of}
use Rattle.gen_turn.specs.Grounds.{IsOfWords}

-- ---- names and biases

-- a name without a value gets one, where there is one
abbrev pub with_name : ℕ → Option ℕ → List (Option ℕ) → List (Option ℕ)
with_name n None names = names
with_name n (Some v) names = if is_some (slice_index_or names n None) then names else slice_set names n (Some v)

-- an atom binds its name to the value of its variable
abbrev pub bound_with : (Var → Option ℕ) → Atom → List (Option ℕ) → List (Option ℕ)
bound_with values (atoms.Is v n) names = with_name n (values v) names
bound_with values (atoms.In v set) names = names
bound_with values (atoms.NotIn v set) names = names
bound_with values (atoms.Same v u) names = names
bound_with values (atoms.Differ v u) names = names
bound_with values atoms.Taken names = names
bound_with values atoms.NotTaken names = names
bound_with values atoms.Shared names = names

-- the bias with this number among the biases is listed
abbrev pub is_listed : List (ℕ × Bool) → ℕ → Bool
is_listed dropped bias = list_any (λ d. d.0 == bias) dropped

-- an atom that has to hold binds its name, and so does a bias that is kept; the next bias would have this number
abbrev pub bound_by_wish : (Var → Option ℕ) → List (ℕ × Bool) → ℕ → Wish → List (Option ℕ) → List (Option ℕ)
bound_by_wish values dropped bias w names = if w.prefer && is_listed dropped bias then names else bound_with values w.atom names

abbrev pub next_bias : ℕ → Wish → ℕ
next_bias bias w = if w.prefer then bias + 1 else bias

-- so do all atoms of a leaf, in the order of its text
abbrev pub names_bound : (Var → Option ℕ) → List (ℕ × Bool) → ℕ → List Wish → List (Option ℕ) → List (Option ℕ)
names_bound values dropped bias [] names = names
names_bound values dropped bias (w ∷ ws) names = names_bound values dropped (next_bias bias w) ws (bound_by_wish values dropped bias w names)

-- the numbers of the biases among the atoms of a leaf; the first atom has this number
abbrev pub bias_atoms : ℕ → List Wish → List ℕ
bias_atoms atom [] = []
bias_atoms atom (w ∷ ws) = if w.prefer then atom ∷ bias_atoms (atom + 1) ws else bias_atoms (atom + 1) ws

-- a bias that is not kept, by its number among the biases and whether the budget was spent, as a test lists it
abbrev pub listed_as : ℕ → ℕ → List Wish → ℕ × Bool → Dropped
listed_as hart step ws d = record { hart = hart; step = step; atom = slice_index (bias_atoms 0 ws) d.0; why = if d.1 then whys.Spent else whys.NoneFits }

-- a test with other names
abbrev pub with_names : List (Option ℕ) → Whole → Whole
with_names names w = record w { names = names }

-- a test with more dropped biases
abbrev pub with_all_dropped : List Dropped → Whole → Whole
with_all_dropped more w = record w { dropped = w.dropped ++ more }

-- ---- what is taken

-- a step of an answer as admission sees it: its record, and the registers before it, those that it starts among them
abbrev pub moment_at : ℕ → Values → Record → Whole → Moment
moment_at k x done w = record {
  done = done;
  regs = registers_from (enlarged (known_at k w) (new_at k w x)) 0 32;
  names = λ n. slice_index_or w.names n None;
  others = take k w.traces;
}

-- the step of an answer was taken, with a record that can stand in a file, the names of the mandatory atoms and the kept biases were bound, and the biases that were
-- not kept were listed; what comes of it is a test, and what is known then is words
pub record IsLeafTaken (k : ℕ) (ws : List Wish) (dropped : List (ℕ × Bool)) (x : Values) (old after : Whole) : Type 0 where
  pub done : Record
  pub stepped : Whole
  pub taken : IsTakenBy k x done old stepped
  pub is : after ≡ with_all_dropped (map (listed_as k (length (records_of k old)) ws) dropped)
      (with_names (names_bound (λ v. value_of v (moment_at k x done old)) dropped 0 ws stepped.names) stepped)
  pub fit : IsFitRecord done
  pub test : IsTest after
  pub words : IsOfWords k after

-- the answer of a leaf, and what it makes of the test
abbrev pub EndsAs : Drafted → ℕ → List Wish → List (ℕ × Bool) → Solved → Turned Drafted → Type 0
EndsAs d k ws dropped (answers.Found x) r = (after : Whole) × IsLeafTaken k ws dropped (values_in x) d.now after × (r ≡ Taken (at_test d after))
EndsAs d k ws dropped answers.NoneFits r = r ≡ NoneFits
EndsAs d k ws dropped answers.Spent r = r ≡ Spent

-- ---- a `do` leaf

-- the leaf was answered where the pc leads, by entries that are known
pub record IsAnswered (d : Drafted) (k : ℕ) (ws : List Wish) (draws : List ℕ) (r : Turned Drafted) : Type 0 where
  pub walk : List Entry
  pub pa : ℕ
  pub leads : IsFetched (turn_of d (mandatory_of ws) k) walk pa
  pub answer : LeafAnswer
  pub is : IsTurnLeafAnswer (turn_of d (mandatory_of ws) k) pa (mandatory_of ws) (biases_of ws) draws d.nodes answer
  pub ends : EndsAs d k ws answer.dropped answer.solved r

-- the new entries of a fetch were started, which left a test whose known places are words, and then the leaf was answered
pub record IsAnsweredBehind (d : Drafted) (k : ℕ) (ws : List Wish) (draws : List ℕ) (x : Values) (r : Turned Drafted) : Type 0 where
  pub fetched : Whole
  pub placed : ArePlaced k (fetch_places (turn_of d (mandatory_of ws) k) x) d.now fetched
  pub test : IsTest fetched
  pub words : IsOfWords k fetched
  pub answered : IsAnswered (at_test d fetched) k ws draws r

abbrev pub GoesOn : Drafted → ℕ → List Wish → List ℕ → Solved → Turned Drafted → Type 0
GoesOn d k ws draws (answers.Found x) r = IsAnsweredBehind d k ws draws (values_in x) r
GoesOn d k ws draws answers.NoneFits r = r ≡ NoneFits
GoesOn d k ws draws answers.Spent r = r ≡ Spent

-- first its fetch is answered, and then the leaf, on the test that the fetch's answer made
pub record IsDone (d : Drafted) (k : ℕ) (ws : List Wish) (draws : List ℕ) (r : Turned Drafted) : Type 0 where
  pub fetch : Solved
  pub is : IsFetchAnswer (turn_of d (mandatory_of ws) k) draws d.nodes fetch
  pub goes_on : GoesOn d k ws draws fetch r

-- ---- a `fault` leaf

-- its fetch is answered so that it fails with a listed cause
pub record IsFailed (d : Drafted) (k : ℕ) (causes : List ℕ) (draws : List ℕ) (r : Turned Drafted) : Type 0 where
  pub fetch : Solved
  pub is : IsFaultAnswer (turn_of d [] k) (is_in causes) draws d.nodes fetch
  pub ends : EndsAs d k [] [] fetch r

-- ---- turns, labels and choices

-- what a leaf turn of hart k makes of a test; nothing but leaves has turns
abbrev pub IsTurnedTo : Drafted → ℕ → Item → List ℕ → Turned Drafted → Type 0
IsTurnedTo d k (items.Leaf line ws) draws r = IsDone d k ws.items draws r
IsTurnedTo d k (items.FetchFault line causes) draws r = IsFailed d k causes draws r
IsTurnedTo d k _ draws r = ⊥

-- a label binds its name to the pc of the hart
abbrev pub labelled_at : ℕ → ℕ → Drafted → Drafted
labelled_at k n d = at_test d (with_names (with_name n (Some (hart_of k d.now).pc) d.now.names) d.now)

-- an alternative that is taken is one of the test's choices
abbrev pub chosen_at : ℕ → Drafted → Drafted
chosen_at way d = at_test d (chosen way d.now)
