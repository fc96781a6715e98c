-- The page table entries that a fetch starts, given to a test one by one.
use Rattle.std.specs.Prelude.{◌≡◌, ℕ, ◌%◌, ◌<◌, ◌≤◌, ◌++◌, true, List, [], ◌∷◌, length, Some, None}
use Rattle.rv_isa.specs.declared.instruction.Instr.{Instr}
use Rattle.rv_script.specs.declared.access.Access.{Access}
use Rattle.rv_script.specs.declared.place.Place.{Place}
use Rattle.rv_script.specs.Lists.{HasItem}
use Rattle.rv_script.specs.Script.{Script}
use Rattle.rv_script.specs.Folds.{Answer, Answer.Does, Answer.Missing as Lacks, Answer.Nowhere, Entry, Known, answer_on, by_known}
use Rattle.rv_script.specs.Logs.{answer_told, enlarged, entry_label, entry_place, started}
use Rattle.sv_walk.specs.declared.entry.Kind.TheVariants.{Fetch as ForFetch}
use Rattle.sv_walk.specs.Translation.{Reached, translated}
use Rattle.rv_hart.specs.Fixed.{Fixed}
use Rattle.rv_hart.specs.Machine.{fetch_view}
use Rattle.foot_map.specs.declared.touch.Touch.{Touch}
use Rattle.part_machine.specs.Whole.{Whole, fixed_in, hart_of, next_of}
use Rattle.part_state.specs.Meaning.{IsTest}
use Rattle.leaf_link.specs.Turns.{Turn, may_start}
use Rattle.leaf_link.specs.Fetches.{IsFetchCandidate, fetch_script}
use Rattle.sv_walk.specs.Translation.{At}
use Rattle.turn_laws.specs.Given.{AreListed, CanGive, Setting, all_given, given_to, known_at, turn_at}
use Rattle.turn_laws.specs.Ahead.{AreAmong, AreVectors, IsNextPlace, unknown_in}

-- the translation of a hart's pc
abbrev pub walk_script : Fixed → Script Reached
walk_script f = translated f.ram (fetch_view f) ForFetch f.pc

-- what it does on what is known, or the entry that it lacks
abbrev pub walked_at : ℕ → Whole → Answer Access Reached
walked_at k w = answer_on (known_at k w) (walk_script (fixed_in (hart_of k w) w.memory))

-- the translation of the pc, played on what its turn knows and on the entries that it starts, does so; each may be started with its value
pub record IsWalked (t : Turn) (new : Known) (log : List Entry) (end : Reached) : Type 0 where
  pub plays : answer_told (by_known (enlarged t.known new)) (fetch_script t) ≡ Does log end
  pub exact : (place : Place) → new place ≡ started t.known log place
  pub may : (e : Entry) → HasItem log e → t.known (entry_place e) ≡ None → (i : Instr) × (may_start t i (entry_label e) (entry_place e) e.value ≡ true)

-- so does that of a candidate for the fetch of a `do` leaf
abbrev pub FetchCandidatesAreWalked : Type 0
FetchCandidatesAreWalked = (t : Turn) (new : Known) → (c : IsFetchCandidate t new) → IsWalked t new c.log (At c.pa)

-- of the entries that a fetch starts, some are given. The translation lacks another one of them, and so does the next step; a start can give it its value, and then fewer
-- are left; or it is done, and then all of them are given; and never is there no translation
pub record IsEntering (k : ℕ) (w : Whole) (new : Known) (es : List (Place × ℕ)) (log : List Entry) (end : Reached) : Type 0 where
  pub lacks : (place : Place) → walked_at k (all_given k es w) ≡ Lacks place → (next_of k (all_given k es w) ≡ Lacks place) × IsNextPlace k w new es place
  pub fewer : (place : Place) (v : ℕ) → walked_at k (all_given k es w) ≡ Lacks place → new place ≡ Some v
      → unknown_in (enlarged (known_at k w) (given_to (es ++ (place, v) ∷ []))) log < unknown_in (enlarged (known_at k w) (given_to es)) log
  pub among : (place : Place) (v : ℕ) → walked_at k (all_given k es w) ≡ Lacks place → new place ≡ Some v → AreAmong (es ++ (place, v) ∷ []) new × CanGive k (es ++ (place, v) ∷ []) w
  pub somewhere : walked_at k (all_given k es w) ≡ Nowhere → ⊥
  pub done : (xs : List Access) (other : Reached) → walked_at k (all_given k es w) ≡ Does xs other
      → AreListed es new × (other ≡ end) × (answer_told (by_known (known_at k (all_given k es w))) (walk_script (fixed_in (hart_of k (all_given k es w)) (all_given k es w).memory)) ≡ Does log end)

abbrev pub EntriesAreNext : Type 0
EntriesAreNext =
    (s : Setting) (feet : List Touch) (k : ℕ) (w : Whole) (new : Known) (es : List (Place × ℕ)) (log : List Entry) (end : Reached)
    → IsTest w → k < length w.harts → (fixed_in (hart_of k w) w.memory).pc % 4 ≡ 0 → AreVectors s.vectors
    → CanGive k es w → AreAmong es new → IsWalked (turn_at s feet k w) new log end → IsEntering k w new es log end

-- a translation asks for two entries at most
abbrev pub WalksAreShort : Type 0
WalksAreShort = (t : Turn) (new known : Known) (log : List Entry) (end : Reached) → IsWalked t new log end → unknown_in known log ≤ 2
