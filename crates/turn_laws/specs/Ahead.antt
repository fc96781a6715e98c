-- What the next step of a hart lacks while the places that it starts are given to it.
use Rattle.std.specs.Prelude.{◌≡◌, ℕ, ◌+◌, ◌%◌, ◌^◌, ◌<◌, ◌≤◌, IsTrue, List, [], ◌∷◌, ◌++◌, length, Option, Some, None}
use Rattle.dom_set.specs.Elements.{is_in}
use Rattle.rv_script.specs.declared.access.Access.{Access}
use Rattle.rv_script.specs.declared.place.Place.{Place}
use Rattle.rv_script.specs.Folds.{Answer.Does, Answer.Missing as Lacks, Answer.Nowhere, Entry, Known}
use Rattle.rv_script.specs.Logs.{enlarged, entry_place}
use Rattle.rv_hart.specs.declared.record.Change.{Change}
use Rattle.foot_map.specs.declared.touch.Touch.{Touch}
use Rattle.part_machine.specs.Whole.{Whole, fixed_in, hart_of, next_of}
use Rattle.part_state.specs.Meaning.{CanStart, IsTest, place_given}
use Rattle.leaf_link.specs.Turns.{Turn}
use Rattle.turn_laws.specs.Given.{AreListed, CanGive, IsAddressed, Setting, all_given, given_to, known_at, turn_at}
use Rattle.turn_laws.specs.Played.{IsPlayed}

-- what the list gives is new, with the same value
abbrev pub AreAmong : List (Place × ℕ) → Known → Type 0
AreAmong es new = (place : Place) (v : ℕ) → given_to es place ≡ Some v → new place ≡ Some v

-- the vectors are multiples of 4
abbrev pub AreVectors : List ℕ → Type 0
AreVectors vectors = (v : ℕ) → IsTrue (is_in vectors v) → v % 4 ≡ 0

abbrev pub count_unknown : Option ℕ → ℕ
count_unknown None = 1
count_unknown (Some v) = 0

-- how many entries of a log ask for places that are not known
abbrev pub unknown_in : Known → List Entry → ℕ
unknown_in known [] = 0
unknown_in known (e ∷ log) = count_unknown (known (entry_place e)) + unknown_in known log

-- a place that is new and not given yet, and that can start with its value
pub record IsNextPlace (k : ℕ) (w : Whole) (new : Known) (es : List (Place × ℕ)) (place : Place) : Type 0 where
  pub value : ℕ
  pub new_is : new place ≡ Some value
  pub later : given_to es place ≡ None
  pub can : CanStart k place value (all_given k es w)
  pub address : IsAddressed place
  pub fits : value < 2 ^ 32

-- of the places that a step starts, some are given. The next step lacks another one of them, which a start can give its value, and then fewer are left;
-- or it is done, and then all of them are given; and never is there none
pub record IsUnderway (k : ℕ) (w : Whole) (new : Known) (es : List (Place × ℕ)) (log : List Entry) : Type 0 where
  pub lacks : (place : Place) → next_of k (all_given k es w) ≡ Lacks place → IsNextPlace k w new es place
  pub fewer : (place : Place) (v : ℕ) → next_of k (all_given k es w) ≡ Lacks place → new place ≡ Some v
      → unknown_in (enlarged (known_at k w) (given_to (es ++ (place, v) ∷ []))) log < unknown_in (enlarged (known_at k w) (given_to es)) log
  pub among : (place : Place) (v : ℕ) → next_of k (all_given k es w) ≡ Lacks place → new place ≡ Some v → AreAmong (es ++ (place, v) ∷ []) new × CanGive k (es ++ (place, v) ∷ []) w
  pub somewhere : next_of k (all_given k es w) ≡ Nowhere → ⊥
  pub listed : (xs : List Access) (change : Change) → next_of k (all_given k es w) ≡ Does xs change → AreListed es new

abbrev pub PlacesAreNext : Type 0
PlacesAreNext =
    (s : Setting) (feet : List Touch) (k : ℕ) (w : Whole) (new : Known) (es : List (Place × ℕ)) (log : List Entry) (change : Change)
    → IsTest w → k < length w.harts → (fixed_in (hart_of k w) w.memory).pc % 4 ≡ 0 → AreVectors s.vectors
    → CanGive k es w → AreAmong es new → IsPlayed (turn_at s feet k w) new log change → IsUnderway k w new es log

-- a step asks ten questions at most
abbrev pub LogsAreShort : Type 0
LogsAreShort = (t : Turn) (new known : Known) (log : List Entry) (change : Change) → IsPlayed t new log change → unknown_in known log ≤ 10

-- a place more is given behind those before it
abbrev pub OneMoreIsGiven : Type 0
OneMoreIsGiven = (k : ℕ) (es : List (Place × ℕ)) (place : Place) (v : ℕ) (w : Whole) → all_given k (es ++ (place, v) ∷ []) w ≡ place_given k place v (all_given k es w)
