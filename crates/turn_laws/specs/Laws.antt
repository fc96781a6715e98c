-- What holds of places that are given and of steps that are taken.
use Rattle.std.specs.Prelude.{◌≡◌, ℕ, ◌<◌, length, List, Some}
use Rattle.rv_script.specs.declared.place.Place.{Place}
use Rattle.rv_script.specs.declared.place.Place.TheVariants.{Reg}
use Rattle.rv_script.specs.Folds.{Answer.Does, Entry, Known}
use Rattle.rv_script.specs.Logs.{enlarged}
use Rattle.rv_hart.specs.declared.record.Change.{Change}
use Rattle.foot_map.specs.declared.touch.Touch.{Touch}
use Rattle.foot_map.specs.Races.{IsFootprint}
use Rattle.tpl_admit.specs.Races.{footprints_of}
use Rattle.part_laws.specs.Partial.{Partial}
use Rattle.part_machine.specs.Whole.{IsReady, Whole, fixed_in, hart_of, next_of, records_of}
use Rattle.part_state.specs.Meaning.{IsClear, IsNamed, IsTest, partial_of}
use Rattle.leaf_link.specs.Candidates.{accesses_in}
use Rattle.turn_laws.specs.Given.{AreListed, CanGive, Setting, all_given, given_to, known_at, turn_at}
use Rattle.turn_laws.specs.Played.{IsPlayed}

-- what is known of the hart behind the places that are given to it
abbrev pub GivenPlacesAreKnown : Type 0
GivenPlacesAreKnown =
    (k : ℕ) (es : List (Place × ℕ)) (w : Whole) → IsTest w → k < length w.harts → CanGive k es w
    → (place : Place) → IsNamed place → known_at k (all_given k es w) place ≡ enlarged (known_at k w) (given_to es) place

abbrev pub GivenTestsAreTests : Type 0
GivenTestsAreTests = (k : ℕ) (es : List (Place × ℕ)) (w : Whole) → IsTest w → k < length w.harts → CanGive k es w → IsTest (all_given k es w)

abbrev pub FixedPartsStay : Type 0
FixedPartsStay =
    (k : ℕ) (es : List (Place × ℕ)) (w : Whole) → IsTest w → k < length w.harts → CanGive k es w
    → fixed_in (hart_of k (all_given k es w)) (all_given k es w).memory ≡ fixed_in (hart_of k w) w.memory

-- records, footprints, names, choices and dropped biases are as they were, and so is how many harts there are
pub record IsBeside (old new : Whole) : Type 0 where
  pub traces : new.traces ≡ old.traces
  pub feet : new.feet ≡ old.feet
  pub names : new.names ≡ old.names
  pub choices : new.choices ≡ old.choices
  pub dropped : new.dropped ≡ old.dropped
  pub harts : length new.harts ≡ length old.harts

abbrev pub OthersStay : Type 0
OthersStay = (k : ℕ) (es : List (Place × ℕ)) (w : Whole) → IsBeside w (all_given k es w)

-- what a start gives, another one gives too
pub record IsStartOn (p q : Partial) : Type 0 where
  pub fixed : (j : ℕ) → (q.start j).fixed ≡ (p.start j).fixed
  pub places : (j key v : ℕ) → (p.start j).places key ≡ Some v → (q.start j).places key ≡ Some v
  pub words : (n v : ℕ) → p.words n ≡ Some v → q.words n ≡ Some v

abbrev pub StartsGrow : Type 0
StartsGrow = (k : ℕ) (es : List (Place × ℕ)) (w : Whole) → IsTest w → k < length w.harts → CanGive k es w → IsStartOn (partial_of w) (partial_of (all_given k es w))

-- and it gives the new registers
abbrev pub GivesRegisters : Type 0
GivesRegisters =
    (k : ℕ) (es : List (Place × ℕ)) (w : Whole) (n v : ℕ) → IsTest w → k < length w.harts → CanGive k es w → given_to es (Reg n) ≡ Some v → ((partial_of (all_given k es w)).start k).places n ≡ Some v

-- behind the places that it starts, the step is the next one of the hart, and races with nothing
pub record IsTaken (k : ℕ) (log : List Entry) (change : Change) (after : Whole) : Type 0 where
  pub next : next_of k after ≡ Does (accesses_in log) change
  pub ready : IsReady k after
  pub clear : IsClear k after

abbrev pub PlayedStepsAreNext : Type 0
PlayedStepsAreNext =
    (s : Setting) (feet : List Touch) (k : ℕ) (w : Whole) (new : Known) (es : List (Place × ℕ)) (log : List Entry) (change : Change)
    → IsTest w → k < length w.harts → IsFootprint feet (footprints_of (λ j. records_of j w))
    → CanGive k es w → AreListed es new → IsPlayed (turn_at s feet k w) new log change → IsTaken k log change (all_given k es w)
