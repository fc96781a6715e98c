-- What a run of the code's system tells of the whole systems for which it stands.
use Rattle.std.specs.Prelude.{◌≡◌, ℕ, ◌<◌, true, false, if◌then◌else◌, List, length, take, slice_index, Option, Some, None}
use Rattle.rv_mem.specs.Full.{full_at}
use Rattle.rv_hart.specs.declared.record.Record.{Record}
use Rattle.rv_hart.specs.Whole.{Step, step_of}
use Rattle.tpl_admit.specs.System.{System, Ran, moved, run_of}
use Rattle.rv_system.specs.declared.system.System.{System as ASystem}
use Rattle.rv_system.specs.Systems.{IsWholeOf}

-- the code's system stands for a whole one; what this has outside of RAM, and where there is no place, is arbitrary
abbrev pub StandsFor : ASystem → System → Type 0
StandsFor s sys = IsWholeOf s.harts.items (full_at s.mem) sys

-- the record of a step, where there is one
abbrev pub record_in : Option Step → Option Record
record_in None = None
record_in (Some s) = Some s.did

-- the system after a step of hart k, where there is one
abbrev pub moved_by : Option Step → ℕ → System → System
moved_by None k sys = sys
moved_by (Some s) k sys = moved k s sys

-- the next step of hart k
abbrev pub next_of : ℕ → System → Option Step
next_of k sys = step_of (sys.harts k) sys.memory

-- the run of a schedule does it all, with these events
pub record RunsWith (schedule : List ℕ) (sys : System) (told : List (ℕ × Record)) : Type 0 where
  pub whole : (run_of schedule sys).whole ≡ true
  pub events : (run_of schedule sys).events ≡ told

-- the hart at which a run of a schedule stopped, where it did
abbrev pub stopped_hart : List ℕ → Ran → Option ℕ
stopped_hart schedule r = if r.whole then None else Some (slice_index schedule (length r.events))

-- the run of a schedule does what stands before this position, and has no step there
pub record StopsAt (schedule : List ℕ) (sys : System) (at : ℕ) : Type 0 where
  pub within : at < length schedule
  pub stops : (run_of schedule sys).whole ≡ false
  pub no_step : next_of (slice_index schedule at) (run_of schedule sys).system ≡ None
  pub count : length (run_of schedule sys).events ≡ at
  pub before : (run_of (take at schedule) sys).whole ≡ true
  pub events : (run_of schedule sys).events ≡ (run_of (take at schedule) sys).events
  pub system : (run_of schedule sys).system ≡ (run_of (take at schedule) sys).system
