-- The way back: from a step on a test to which places were given to a candidate.
use Rattle.std.specs.Prelude.{◌≡◌, ℕ, ◌<◌, Bool, List, length, Some}
use Rattle.rv_isa.specs.declared.instruction.Instr.{Instr}
use Rattle.rv_script.specs.declared.access.Access.{Access}
use Rattle.rv_script.specs.declared.place.Place.{Place}
use Rattle.rv_script.specs.Folds.{Answer.Does, Entry, by_known}
use Rattle.rv_script.specs.Logs.{answer_told, enlarged, started}
use Rattle.foot_map.specs.declared.touch.Touch.{Touch}
use Rattle.rv_hart.specs.declared.record.Change.{Change}
use Rattle.rv_hart.specs.Machine.{script}
use Rattle.tpl_ast.specs.declared.template.Atom.{Atom}
use Rattle.part_machine.specs.Whole.{Whole, fixed_in, hart_of, next_of}
use Rattle.part_state.specs.Meaning.{IsTest}
use Rattle.leaf_link.specs.Candidates.{IsCandidate, Meets, accesses_in}
use Rattle.leaf_link.specs.Faults.{IsFaultCandidate, MeetsFault}
use Rattle.turn_laws.specs.Given.{CanGive, Setting, all_given, given_to, known_at, turn_at}

-- a step on a test to which places were given has a log there. It is played in the same way on what was known before and on those of the places alone that it asks
-- for, and it is that of a candidate, which starts just these, where it meets what is asked of a leaf's step
pub record IsOfCandidate (s : Setting) (feet : List Touch) (k : ℕ) (w : Whole) (es : List (Place × ℕ)) (xs : List Access) (change : Change) : Type 0 where
  pub log : List Entry
  pub accesses : xs ≡ accesses_in log
  pub told : answer_told (by_known (known_at k (all_given k es w))) (script (fixed_in (hart_of k w) w.memory)) ≡ Does log change
  pub plays : answer_told (by_known (enlarged (known_at k w) (started (known_at k w) log))) (script (fixed_in (hart_of k w) w.memory)) ≡ Does log change
  -- what it starts was given with the same value
  pub given : (place : Place) (v : ℕ) → started (known_at k w) log place ≡ Some v → given_to es place ≡ Some v
  pub candidate : (leaf : List Atom) (i : Instr) → Meets (turn_at s feet k w) leaf i log change → IsCandidate (turn_at s feet k w) leaf (started (known_at k w) log)
  -- so it is where its fetch fails
  pub fault : (causes : ℕ → Bool) → MeetsFault (turn_at s feet k w) causes log change → IsFaultCandidate (turn_at s feet k w) causes (started (known_at k w) log)

-- whatever places are given to the hart, more than its next step asks for or not
abbrev pub StepsAreOfCandidates : Type 0
StepsAreOfCandidates =
    (s : Setting) (feet : List Touch) (k : ℕ) (w : Whole) (es : List (Place × ℕ)) (xs : List Access) (change : Change)
    → IsTest w → k < length w.harts → CanGive k es w → next_of k (all_given k es w) ≡ Does xs change → IsOfCandidate s feet k w es xs change
