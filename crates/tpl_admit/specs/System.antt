-- Harts on one memory, and the run of a schedule.
use Rattle.std.specs.Prelude.{ℕ, suc, Bool, true, false, nat_eq, if◌then◌else◌, List, [], ◌∷◌, Option, Some, None}
use Rattle.rv_script.specs.Memory.{memory_after}
use Rattle.rv_hart.specs.declared.record.Record.{Record}
use Rattle.rv_hart.specs.Whole.{WholeHart, Step, step_of, hart_after}

-- whole harts by their numbers, and a whole memory by word numbers
pub record System : Type 0 where
  pub harts : ℕ → WholeHart
  pub memory : ℕ → ℕ

-- all as before but for one
abbrev pub replaced : {A : Type 0} → ℕ → A → (ℕ → A) → ℕ → A
replaced k new old j = if nat_eq j k then new else old j

-- the system after a step of hart k
abbrev pub moved : ℕ → Step → System → System
moved k s sys = record { harts = replaced k (hart_after s (sys.harts k)) sys.harts; memory = memory_after s.did.accesses sys.memory }

-- the pairs of hart number and record of a run, where it ends, and whether it did the whole schedule
pub record Ran : Type 0 where
  pub events : List (ℕ × Record)
  pub system : System
  pub whole : Bool

abbrev pub goes_on : Option Step → ℕ → System → (System → Ran) → Ran
goes_on None k sys rest = record { events = []; system = sys; whole = false }
goes_on (Some s) k sys rest =
    let r = rest (moved k s sys) in
    record { events = (k, s.did) ∷ r.events; system = r.system; whole = r.whole }

-- the run of a schedule, a list of hart numbers: one whole step for each, until one has none
abbrev pub run_of : List ℕ → System → Ran
run_of [] sys = record { events = []; system = sys; whole = true }
run_of (k ∷ ks) sys = goes_on (step_of (sys.harts k) sys.memory) k sys (λ next. run_of ks next)

-- the records of one hart
abbrev pub of_hart : ℕ → List (ℕ × Record) → List Record
of_hart k [] = []
of_hart k (e ∷ es) = if nat_eq k e.0 then e.1 ∷ of_hart k es else of_hart k es

-- how often a hart's turn comes
abbrev pub times : ℕ → List ℕ → ℕ
times k [] = 0
times k (j ∷ js) = if nat_eq k j then suc (times k js) else times k js
