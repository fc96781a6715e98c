-- What is wrong with a certificate that isn't valid: the first failure, in the order in which a check looks for them. Its kind is
--   1, 2 or 3 of a step of a hart that is run alone: the record isn't the machine's; a place that the step needs was neither given nor
--     written; the machine has no step
--   4 of the end: a hart, or memory, isn't as printed
--   5 of a record's accesses: they race with those of an earlier record, or among themselves
--   6 of the template: it doesn't admit the trace
use Rattle.std.specs.Prelude.{◌≡◌, ◌≢◌, ℕ, ◌+◌, ◌/◌, ◌<◌, ◌⊎◌, Bool, true, false, nat_eq, nat_lt, if◌then◌else◌, List, [], ◌∷◌, length, map, take, Option, Some, None}
use Rattle.rv_script.specs.declared.access.Access.{Access}
use Rattle.rv_script.specs.declared.place.Place.{Place}
use Rattle.rv_script.specs.Lists.{HasItem}
use Rattle.rv_script.specs.Memory.{memory_after}
use Rattle.foot_map.specs.Races.{IsRaceFree}
use Rattle.rv_hart.specs.declared.record.Record.{Record}
use Rattle.rv_hart.specs.Whole.{WholeHart, Step, step_of, needed_places, hart_after}
use Rattle.tpl_admit.specs.declared.certificate.Cert.{Cert}
use Rattle.tpl_admit.specs.Starts.{start_of, final_of, trace_of, word_of, fixed_in, first_hart, first_memory, is_given, lookup}
use Rattle.tpl_admit.specs.Races.{footprint_of, footprints_of}
use Rattle.tpl_admit.specs.Solo.{AreRight, AreSet, IsRight, is_set, knows_also}
use Rattle.tpl_admit.specs.Validity.{EndsAsPrinted, MemoryEndsAsPrinted}
use Rattle.tpl_admit.specs.Unmet.{IsLeastFailure}

-- how the step isn't as its record says
abbrev pub IsWrong : (ℕ → Option ℕ) → (ℕ → Bool) → WholeHart → (ℕ → ℕ) → Record → ℕ → Type 0
IsWrong words knows h memory r kind =
    ((kind ≡ 2) × (place : Place) × HasItem (needed_places h memory) place × (is_set knows words place ≡ false))
    ⊎ (((kind ≡ 3) × AreSet words knows h memory × (step_of h memory ≡ None))
    ⊎ ((kind ≡ 1) × AreSet words knows h memory × (s : Step) × (step_of h memory ≡ Some s) × (s.did ≢ r)))

-- the first step, counted on from a number, that isn't as its record says, and how
abbrev pub GoesWrong : (ℕ → Option ℕ) → (ℕ → Bool) → WholeHart → (ℕ → ℕ) → List Record → ℕ → ℕ → ℕ → Type 0
GoesWrong words knows h memory [] n kind step = ⊥
GoesWrong words knows h memory (r ∷ rs) n kind step =
    (IsWrong words knows h memory r kind × (step ≡ n))
    ⊎ ((s : Step) × IsRight words knows h memory r s
    × GoesWrong words (knows_also s.writes knows) (hart_after s h) (memory_after s.did.accesses memory) rs (n + 1) kind step)

-- hart k alone, from the start with zero elsewhere
abbrev pub HartIsRight : Cert → ℕ → Type 0
HartIsRight c k = AreRight (word_of c) (is_given (start_of c k)) (first_hart c k) (first_memory c) (trace_of c k)

abbrev pub HartGoesWrong : Cert → ℕ → ℕ → ℕ → Type 0
HartGoesWrong c k kind step = GoesWrong (word_of c) (is_given (start_of c k)) (first_hart c k) (first_memory c) (trace_of c k) 0 kind step

abbrev pub AllAreRight : Cert → Type 0
AllAreRight c = (k : ℕ) → k < length c.start → HartIsRight c k

abbrev pub AllEndAsPrinted : Cert → Type 0
AllEndAsPrinted c = (k : ℕ) → k < length c.start → EndsAsPrinted c k

-- a step goes wrong, and none of an earlier hart
pub record FailsInStep (c : Cert) (kind hart step : ℕ) : Type 0 where
  pub there : hart < length c.start
  pub before : (k : ℕ) → k < hart → HartIsRight c k
  pub wrong : HartGoesWrong c hart kind step

-- all steps are right, and a hart ends otherwise, and none before it
pub record FailsAtEnd (c : Cert) (kind hart step : ℕ) : Type 0 where
  pub steps : AllAreRight c
  pub kind_is : kind ≡ 4
  pub there : hart < length c.start
  pub before : (k : ℕ) → k < hart → EndsAsPrinted c k
  pub wrong : EndsAsPrinted c hart → ⊥
  pub step_is : step ≡ length (trace_of c hart)

-- memory alone ends otherwise
pub record FailsInMemory (c : Cert) (kind hart step : ℕ) : Type 0 where
  pub steps : AllAreRight c
  pub ends : AllEndAsPrinted c
  pub kind_is : kind ≡ 4
  pub wrong : MemoryEndsAsPrinted c → ⊥
  pub hart_is : hart ≡ length c.start
  pub step_is : step ≡ 0

-- the accesses of the harts before one, and of so many of its own records
abbrev pub did_before : Cert → ℕ → ℕ → ℕ → List Access
did_before c hart count k =
    if nat_lt k hart then footprint_of (trace_of c k)
    else (if nat_eq k hart then footprint_of (take count (trace_of c k)) else [])

-- the accesses before a record don't race, and with those of the record they do
pub record RacesFrom (c : Cert) (hart step : ℕ) : Type 0 where
  pub there : hart < length c.start
  pub at : step < length (trace_of c hart)
  pub before : IsRaceFree (did_before c hart step)
  pub races : IsRaceFree (did_before c hart (step + 1)) → ⊥

-- all that is right, and the accesses race from this record on, harts in ascending order
pub record FailsInRace (c : Cert) (kind hart step : ℕ) : Type 0 where
  pub steps : AllAreRight c
  pub ends : AllEndAsPrinted c
  pub memory : MemoryEndsAsPrinted c
  pub kind_is : kind ≡ 5
  pub from : RacesFrom c hart step

-- all that is right, and the template doesn't admit the trace
pub record FailsTemplate (c : Cert) (kind hart step : ℕ) : Type 0 where
  pub steps : AllAreRight c
  pub ends : AllEndAsPrinted c
  pub memory : MemoryEndsAsPrinted c
  pub race_free : IsRaceFree (footprints_of (trace_of c))
  pub kind_is : kind ≡ 6
  pub atom : ℕ
  pub least : IsLeastFailure c hart step atom

-- the first failure
abbrev pub IsFirstFailure : Cert → ℕ → ℕ → ℕ → Type 0
IsFirstFailure c kind hart step =
    FailsInStep c kind hart step ⊎ (FailsAtEnd c kind hart step ⊎ (FailsInMemory c kind hart step ⊎ (FailsInRace c kind hart step ⊎ FailsTemplate c kind hart step)))
